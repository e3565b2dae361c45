-- The digits of a word, mapped from their places. Assumes nothing.
use Rattle.std.proofs.Common.{◌≡◌, ℕ, zero, suc, ◌+◌, ◌*◌, ◌^◌, ◌<◌, ◌≤◌, true, ltb, List, length, get_or, map, refl, sym, ap, ◌∙◌, subst, ⊎_elim, arith}
use denote.Param.Members.{Mut}
use Rattle.std.specs.Fn.{Called}
use Rattle.std.specs.List.{list_all}
use Rattle.std.specs.Array.{IsMapOf, MapsFrom, list_steps}
use Rattle.std.specs.Iterator.{CallableAtEachTurn}
use Rattle.std.proofs.lemmas.Iterator.Consumers.{YieldsList-from_shown}
use Rattle.std.proofs.lemmas.Iterator.Adapters.{serves_from_places}
use Rattle.std.proofs.lemmas.Grind.{same_number_lists}
use Rattle.std.proofs.lemmas.List.{length-map, get_or-map}
use Rattle.std.proofs.lemmas.Bool.{cases_lt, ltb-true}
use Rattle.std.proofs.lemmas.Grind.{pow_more}
use Rattle.std.proofs.lemmas.Nat.{pow-add}
use Rattle.std.proofs.lemmas.List.Sums.{AllPass-from_list_all}

-- calls of which each gives h of its item, and leaves the closure as it was
module _ {F : Type 0} (g : Mut F (ℕ × Unit {0}) ℕ) (h : ℕ → ℕ) (f : F) (calls : (x y : ℕ) (q : F) → Called g f (x, tt) y q → (q ≡ f) × (y ≡ h x)) where
  -- the element that the call at one place gave
  maps_at : (xs ys : List ℕ) (i n : ℕ) → MapsFrom g f xs ys i n → (k : ℕ) → i ≤ k → k < i + n → get_or ys k 0 ≡ h (get_or xs k 0)
  maps_at xs ys i zero m k from to = absurd (omega arith)
  maps_at xs ys i (suc n) (q, x, y, ex, ey, call, rest) k from to =
      let told = calls x y q call in
      ⊎_elim
      (λ after. maps_at xs ys (i + 1) n (subst (λ p. MapsFrom g p xs ys (i + 1) n) told.0 rest) k (omega arith) (omega arith))
      (λ here. let same : k ≡ i = omega arith in ap (λ j. get_or ys j 0) same ∙ ey.1 0 ∙ told.1 ∙ ap h (sym (ex.1 0)) ∙ ap (λ j. h (get_or xs j 0)) (sym same))
      (cases_lt i k)

  -- the list that all calls gave
  pub mapped : (xs ys : List ℕ) (n : ℕ) → length xs ≡ n → IsMapOf g f xs ys n → ys ≡ map h xs
  mapped xs ys n long is =
      same_number_lists ys (map h xs) (simp length-map (is.long ∙ sym long)) (λ k inside. maps_at xs ys 0 n is.each k (omega arith) (omega (arith, is.long)) ∙ sym (get_or-map h xs k 0 0 (omega (arith, is.long))))

-- calls that may be made at each number below eight may be made along a list of such numbers
pub served : {F : Type 0} {R : F → ℕ → F → Type 0} {Q : F → ℕ → Type 0} {f : F} (xs : List ℕ) → list_all (λ n. ltb n 8) xs ≡ true → ((x : ℕ) (q : F) → R f x q → q ≡ f) → ((x : ℕ) → x < 8 → Q f x) → CallableAtEachTurn list_steps R Q xs f
served xs few stays asks =
    let items = YieldsList-from_shown list_steps (λ (x : ℕ). x) (λ s. s) (λ s t h. ap length h) (λ s x t h. h) xs in
    let below = AllPass-from_list_all (λ n. ltb n 8) xs few in
    serves_from_places items stays (λ x k inside at. asks x (subst (λ n. n < 8) (sym at) (ltb-true _ 8 (below k x inside))))

-- four bits are a digit of base sixteen
pub sixteens : (place : ℕ) → 2 ^ (4 * place) ≡ 16 ^ place
sixteens zero = refl
sixteens (suc place) =
    let more : 4 * suc place ≡ 4 * place + 4 = omega arith in
    let split : 2 ^ (4 * place + 4) ≡ 2 ^ (4 * place) * 2 ^ 4 = pow-add 2 (4 * place) 4 in
    let next : 16 ^ suc place ≡ 16 ^ place * 16 = grind (arith, pow_more) in
    ap (λ n. 2 ^ n) more ∙ omega (arith, split, next, sixteens place)
