-- Codes whose bits change places.
use Rattle.std.proofs.Common.{◌≡◌, ℕ, zero, suc, ◌*◌, ◌/◌, ◌%◌, ◌<◌, Bool, true, false, cond, ◌&&◌, bit_and, bit_or, nat_eq, refl, ◌∙◌, sym}
use Rattle.std.proofs.lemmas.Bool.Decides.{Decides-eqb, Decides-below_and}
use Rattle.sign.specs.Marks.{code_of, recoded}
use Rattle.sign.specs.Codes.{joined_under, recoded_high, recoded_low, recoded_right}

-- a code with its two pairs of bits exchanged
abbrev pairs_exchanged : ℕ → ℕ
pairs_exchanged c = bit_or (bit_and c 3 * 4 % 256) (c / 4)

-- a code with the bits within each pair exchanged
abbrev bits_exchanged : ℕ → ℕ
bits_exchanged c = bit_or (bit_and c 5 * 2 % 256) (bit_and (c / 2) 5)

-- a code with the exchanges that two marks ask for
abbrev exchanged_by : Bool → Bool → ℕ → ℕ
exchanged_by x y c = let d = cond x (pairs_exchanged c) c in cond y (bits_exchanged d) d

-- whether each number below n passes a test
abbrev all_pass : (ℕ → Bool) → ℕ → Bool
all_pass p zero = true
all_pass p (suc n) = p n && all_pass p n

-- two functions that are seen to agree on each code below 16
agree : (f g : ℕ → ℕ) → all_pass (λ c. nat_eq (f c) (g c)) 16 ≡ true → (c : ℕ) → c < 16 → f c ≡ g c
agree f g =
    let test : ℕ → Bool = λ c. nat_eq (f c) (g c) in
    (Decides-below_and test (λ c. f c ≡ g c) (all_pass test) (λ c. Decides-eqb (f c) (g c)) refl (λ _. refl) 16).0

-- the exchanges recode a code
pub recoded_by_exchanges : (x y : Bool) (c : ℕ) → c < 16 → recoded x y c ≡ exchanged_by x y c
recoded_by_exchanges x y c lt = recoded_low x y c lt ∙ by_table x y c lt
  where
    by_table : (x y : Bool) (c : ℕ) → c < 16 → code_of (joined_under x y c) ≡ exchanged_by x y c
    by_table true true = agree (λ c. code_of (joined_under true true c)) (exchanged_by true true) refl
    by_table true false = agree (λ c. code_of (joined_under true false c)) (exchanged_by true false) refl
    by_table false true = agree (λ c. code_of (joined_under false true c)) (exchanged_by false true) refl
    by_table false false = agree (λ c. code_of (joined_under false false c)) (exchanged_by false false) refl

-- what recoding a code comes to
pub ruleset recodes = (recoded_high, recoded_right, recoded_by_exchanges)

-- the same equation turned round
pub exchanges_recode : (x y : Bool) (c : ℕ) → c < 16 → exchanged_by x y c ≡ recoded x y c
exchanges_recode x y c lt = sym (recoded_by_exchanges x y c lt)
