use Rattle.std.proofs.Common.{◌≡◌, ℕ, ◌*◌, ◌%◌, ◌^◌, ◌<◌, ◌≤◌, ap, ◌∙◌, arith, pow_mono}
use Rattle.std.proofs.lemmas.Nat.{pow_pos, mod_below}
use Rattle.std.proofs.lemmas.List.{get_or_read}
use Rattle.knowledge.specs.Sets.{has}
use Rattle.grid.proofs.Questions.{read_at}
use Rattle.grid.proofs.Grid.read_sheet.Goals as goal

-- a state's number lies among the width's states
number : (s w : ℕ) → w ≤ 12 → (s % ((1 * 2 ^ w) % 18446744073709551616) ≡ s % 2 ^ w) × (s % 2 ^ w < 4096)
number s w narrow =
    let most : 2 ^ w ≤ 4096 = pow_mono narrow in
    let one : (1 * 2 ^ w) % 18446744073709551616 ≡ 2 ^ w = omega arith in
    (ap (λ (n : ℕ). s % n) one, omega (arith, mod_below s (2 ^ w) (pow_pos w)))

pub index-byte-requires : goal.index-byte-requires
index-byte-requires c =
    let whole = c.args.self.now.whole in let len = c.args.self.now.bytes.ok.0 in
    omega (arith, number c.args.state c.args.self.now.width c.args.self.now.narrow)

pub returns : goal.returns
returns c =
    let g = c.args.self.now in let whole = c.args.self.now.whole in
    let inside = number c.args.state c.args.self.now.width c.args.self.now.narrow in
    let read = get_or_read g.bytes.items _ c.index-byte.result.now (omega arith) c.index-byte.ensures 0 in
    let j = c.args.state % (1 * 2 ^ g.width % 18446744073709551616) in
    c.bit.ensures ∙ ap (λ (x : ℕ). has x (j % 8)) read ∙ read_at g.bytes.items g.width c.args.sheet.number c.args.state _ inside.0
