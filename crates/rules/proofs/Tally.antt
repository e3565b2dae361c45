-- How many numbers below n pass a test. Assumes nothing.
use Rattle.std.proofs.Common.{◌≡◌, ℕ, zero, suc, ◌+◌, ◌%◌, ◌<◌, ◌≤◌, Bool, true, false, cond, eqb, sym, refl, ap, ◌∙◌, inl, inr, arith}
use Rattle.std.proofs.lemmas.Bool.{cases_eq, cases_Bool}
use Rattle.word.specs.Words.{tasks_below}

abbrev pub bit : Bool → ℕ
bit b = cond b 1 0

unfoldable pub tally : (ℕ → Bool) → ℕ → ℕ
tally f zero = 0
tally f (suc n) = bit (f n) + tally f n

pub tally_same : (f g : ℕ → Bool) (n : ℕ) → ((x : ℕ) → x < n → f x ≡ g x) → tally f n ≡ tally g n
unfolding tally
tally_same f g zero same = refl
tally_same f g (suc n) same =
    let here : bit (f n) ≡ bit (g n) = ap bit (same n (omega arith)) in
    let ih = tally_same f g n (λ x h. same x (omega arith)) in
    omega arith

-- two tests that differ at one number only
pub tally_one : (f g : ℕ → Bool) (t n : ℕ) → t < n → ((x : ℕ) → (x ≡ t → ⊥) → f x ≡ g x) → tally g n + bit (f t) ≡ tally f n + bit (g t)
unfolding tally
tally_one f g t zero h same = absurd (omega arith)
tally_one f g t (suc n) h same =
    elim (cases_eq t n) [
      | inl e ↦
          let below : tally f n ≡ tally g n = tally_same f g n (λ x lt. same x (λ q. omega arith)) in
          let bf : bit (f t) ≡ bit (f n) = ap (λ k. bit (f k)) e in
          let bg : bit (g t) ≡ bit (g n) = ap (λ k. bit (g k)) e in
          omega arith
      | inr ne ↦
          let lt : t < n = omega arith in
          let ih = tally_one f g t n lt same in
          let here : bit (f n) ≡ bit (g n) = ap bit (same n (λ q. ne (sym q))) in
          omega arith
    ]

pub tally_none : (f : ℕ → Bool) (n : ℕ) → tally f n ≡ 0 → (x : ℕ) → x < n → f x ≡ false
unfolding tally
tally_none f zero none x h = absurd (omega arith)
tally_none f (suc n) none x h =
    let ih = tally_none f n in
    elim (cases_eq x n) [
      | inl e ↦ rw e (elim (cases_Bool (f n)) [ inl t ↦ let b : bit (f n) ≡ 1 = ap bit t in absurd (omega arith) | inr fail ↦ fail ])
      | inr ne ↦ ih (omega arith) x (omega arith)
    ]

pub none_tally : (f : ℕ → Bool) (n : ℕ) → ((x : ℕ) → x < n → f x ≡ false) → tally f n ≡ 0
unfolding tally
none_tally f zero none = refl
none_tally f (suc n) none =
    let here : bit (f n) ≡ 0 = ap bit (none n (omega arith)) in
    let ih = none_tally f n (λ x h. none x (omega arith)) in
    omega arith

pub tally_has : (f : ℕ → Bool) (n x : ℕ) → x < n → f x ≡ true → 0 < tally f n
unfolding tally
tally_has f zero x h pass = absurd (omega arith)
tally_has f (suc n) x h pass =
    elim (cases_eq x n) [
      | inl e ↦ let b : bit (f n) ≡ 1 = ap bit (rw e at pass) in omega arith
      | inr ne ↦ let ih = tally_has f n x (omega arith) pass in omega arith
    ]

pub tally_some : (f : ℕ → Bool) (n : ℕ) → 0 < tally f n → (x : ℕ) × (x < n) × (f x ≡ true)
unfolding tally
tally_some f zero some = absurd (omega arith)
tally_some f (suc n) some =
    elim (cases_Bool (f n)) [
      | inl t ↦ (n, omega arith, t)
      | inr fail ↦
          let b : bit (f n) ≡ 0 = ap bit fail in
          let ih = tally_some f n (omega arith) in
          (ih.0, omega arith, ih.2)
    ]

pub tally_only : (f : ℕ → Bool) (n x y : ℕ) → tally f n ≤ 1 → x < n → y < n → f x ≡ true → f y ≡ true → y ≡ x
unfolding tally
tally_only f zero x y one hx hy fx fy = absurd (omega arith)
tally_only f (suc n) x y one hx hy fx fy =
    elim (cases_eq x n) [
      | inl ex ↦
          elim (cases_eq y n) [
            | inl ey ↦ ey ∙ sym ex
            | inr ny ↦ let b : bit (f n) ≡ 1 = ap bit (rw ex at fx) in let p = tally_has f n y (omega arith) fy in absurd (omega arith)
          ]
      | inr nx ↦
          let p = tally_has f n x (omega arith) fx in
          elim (cases_eq y n) [
            | inl ey ↦ let b : bit (f n) ≡ 1 = ap bit (rw ey at fy) in absurd (omega arith)
            | inr ny ↦ tally_only f n x y (omega arith) (omega arith) (omega arith) fx fy
          ]
    ]

pub tally_mono : (f g : ℕ → Bool) (n : ℕ) → ((x : ℕ) → f x ≡ true → g x ≡ true) → tally f n ≤ tally g n
unfolding tally
tally_mono f g zero more = omega arith
tally_mono f g (suc n) more =
    let ih = tally_mono f g n more in
    let here : bit (f n) ≤ bit (g n) = elim (cases_Bool (f n)) [
      | inl t ↦ let a : bit (f n) ≡ 1 = ap bit t in let b : bit (g n) ≡ 1 = ap bit (more n t) in omega arith
      | inr fail ↦ let a : bit (f n) ≡ 0 = ap bit fail in omega arith
    ] in
    omega arith

-- a test that fails at a number where another passes
pub tally_less : (f g : ℕ → Bool) (n t : ℕ) → ((x : ℕ) → f x ≡ true → g x ≡ true) → t < n → f t ≡ false → g t ≡ true → tally f n < tally g n
unfolding tally
tally_less f g zero t more h fail pass = absurd (omega arith)
tally_less f g (suc n) t more h fail pass =
    elim (cases_eq t n) [
      | inl e ↦
          let a : bit (f n) ≡ 0 = ap bit (rw e at fail) in
          let b : bit (g n) ≡ 1 = ap bit (rw e at pass) in
          let rest = tally_mono f g n more in
          omega arith
      | inr ne ↦
          let ih = tally_less f g n t more (omega arith) fail pass in
          let here : bit (f n) ≤ bit (g n) = elim (cases_Bool (f n)) [
            | inl t' ↦ let a : bit (f n) ≡ 1 = ap bit t' in let b : bit (g n) ≡ 1 = ap bit (more n t') in omega arith
            | inr fail' ↦ let a : bit (f n) ≡ 0 = ap bit fail' in omega arith
          ] in
          omega arith
    ]

-- the tasks of a group are counted alike
pub tally_group : (groups g n : ℕ) → tasks_below groups g n ≡ tally (λ x. eqb (x % groups) g) n
unfolding tally tasks_below
tally_group groups g zero = refl
tally_group groups g (suc n) = ap (λ k. bit (eqb (n % groups) g) + k) (tally_group groups g n)
