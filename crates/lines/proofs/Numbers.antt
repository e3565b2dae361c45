-- Runs of digits and the numbers that they write. Assumes nothing.
use Rattle.std.proofs.Common.{◌≡◌, ℕ, suc, ◌+◌, ◌-◌, ◌*◌, ◌^◌, ◌<◌, ◌≤◌, true, leb, List, [], ◌∷◌, ◌++◌, length, get_or, take, drop, decimal, fold, ap, ◌∙◌, ⊎_elim, arith, rules}
use Rattle.std.specs.Int.{IsInRange}
use Rattle.std.specs.Char.{is_ascii_digit}
use Rattle.std.specs.List.{prefix_len as leading}
use Rattle.std.proofs.lemmas.Fmt.{decimal_nonempty, length-decimal-le, first_decimal, decimal_digit}
use Rattle.std.proofs.lemmas.List.{length-take, length-take-le, get_or-take}
use Rattle.std.proofs.lemmas.Str.Parse.{IsNumeralModel, tells_by_index, numerals_by_fold, digits_value_short}
use Rattle.std.proofs.lemmas.List.Sums.{prefix_len_passes}
use Rattle.std.proofs.lemmas.Bool.{cases_lt, and_parts, and_from, leb-true, le-leb, cond-true}
use Rattle.std.proofs.lemmas.Bool.Decides.{nat_tests}
use Rattle.lines.specs.Grammar.{run_length, number_at, value_of, well_formed}
use Rattle.lines.specs.Scan.{AllDigits}

digit_in : (b : ℕ) → is_ascii_digit b ≡ true → IsInRange 48 57 b
digit_in b h = let p = and_parts (leb 48 b) (leb b 57) h in (leb-true 48 b p.0, leb-true b 57 p.1)

-- Each byte of a run is a digit.
run_digit : (bytes : List ℕ) (k : ℕ) → k < run_length bytes → IsInRange 48 57 (get_or bytes k 0)
unfolding run_length
run_digit bytes k h = digit_in (get_or bytes k 0) (prefix_len_passes is_ascii_digit bytes k 0 h)

-- Each byte of the number at a place is a digit.
pub number_digits : (line : List ℕ) (place : ℕ) → AllDigits (number_at line place)
number_digits line place k h =
    let within : k < run_length (drop place line) = omega (arith, length-take (run_length (drop place line)) (drop place line)) in
    rw get_or-take (run_digit (drop place line) k within)

-- Lists of digits, and the numbers that they write, in the library's words.
pub numerals : IsNumeralModel AllDigits value_of
unfolding value_of
numerals = numerals_by_fold AllDigits tells_by_index (λ n digits. fold (λ n digit. n * 10 + (digit - 48)) n digits) (search rules)

-- Before the last of at most three digits a number below a hundred is read.
pub value_before : (digits : List ℕ) (i : ℕ) → AllDigits digits → length digits ≤ 3 → i < length digits → value_of (take i digits) < 100
value_before digits i all few inside =
    let long : length (take i digits) ≡ i = length-take-le i digits (omega arith) in
    let front : AllDigits (take i digits) = λ k h. let below : k < i = omega arith in rw get_or-take (all k (omega arith)) in
    omega (arith, digits_value_short numerals (take i digits) 2 front (omega arith))

-- What the form of a number says.
pub record Formed (digits : List ℕ) : Type 0 where
  pub some : 0 < length digits
  pub few : length digits ≤ 3
  pub leading : get_or digits 0 0 ≡ 48 → length digits ≡ 1

pub formed : (digits : List ℕ) → well_formed digits ≡ true → Formed digits
formed digits h = record { some = grind (arith, nat_tests); few = grind (arith, nat_tests); leading = λ zero. grind (arith, nat_tests) }

forms : (digits : List ℕ) → 0 < length digits → length digits ≤ 3 → (get_or digits 0 0 ≡ 48 → length digits ≡ 1) → well_formed digits ≡ true
forms digits some few lead = grind (arith, nat_tests)

-- A number up to 999 in decimal is well formed.
pub decimal_formed : (n : ℕ) → n ≤ 999 → well_formed (decimal n) ≡ true
decimal_formed n small =
    let fits : n < 2 ^ 64 = omega arith in
    let lead : get_or (decimal n) 0 0 ≡ 48 → length (decimal n) ≡ 1 = λ zero. ⊎_elim (λ some. absurd (omega (arith, first_decimal n some fits))) (λ none. ap length (decimal_digit n (omega arith))) (cases_lt 0 n) in
    forms (decimal n) (decimal_nonempty n fits) (length-decimal-le 3 n (omega arith) (omega arith) fits) lead

-- Digits before what begins with no digit are the run.
pub run_front : (digits rest : List ℕ) → AllDigits digits → run_length rest ≡ 0 → run_length (digits ++ rest) ≡ length digits
unfolding run_length
run_front [] rest all none = none
run_front (d ∷ digits) rest all none =
    let first = all 0 (omega arith) in
    let is : is_ascii_digit d ≡ true = and_from (leb 48 d) (leb d 57) (le-leb 48 d first.0) (le-leb d 57 first.1) in
    let more = run_front digits rest (λ k h. all (suc k) (omega arith)) none in
    cond-true (is_ascii_digit d) (1 + leading is_ascii_digit (digits ++ rest)) 0 is ∙ omega (arith, more)
