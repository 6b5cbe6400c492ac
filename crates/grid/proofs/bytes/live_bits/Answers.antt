use Rattle.std.proofs.Common.{◌≡◌, ◌^◌, ◌≤◌, true, ltb, refl, arith, pow_mono}
use Rattle.std.proofs.lemmas.Bool.{lt-ltb, agree_below_at}
use Rattle.knowledge.specs.Sets.{has}
use Rattle.grid.proofs.Octets.{has_whole}
use Rattle.grid.proofs.bytes.live_bits.Goals as goal

pub returns-in-0 : goal.returns-in-0
returns-in-0 c t lt = rw c.in-0.is (agree_below_at (has 1) (λ t. ltb t 1) 8 t refl lt)

pub returns-in-1 : goal.returns-in-1
returns-in-1 c t lt = rw c.in-1.is (agree_below_at (has 3) (λ t. ltb t 2) 8 t refl lt)

pub returns-in-2 : goal.returns-in-2
returns-in-2 c t lt = rw c.in-2.is (agree_below_at (has 15) (λ t. ltb t 4) 8 t refl lt)

pub returns-in_default : goal.returns-in_default
returns-in_default c t lt =
    let wide : 3 ≤ c.args.width = omega arith in
    let most : 8 ≤ 2 ^ c.args.width = pow_mono wide in
    let all : ltb t (2 ^ c.args.width) ≡ true = lt-ltb _ _ (omega arith) in
    rw all (has_whole true t lt)
