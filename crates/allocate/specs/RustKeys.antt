-- codegen.rs: `max_by_key` in `take` compares pairs: whether a value needs no spill, then the position of its next read or the greatest number. The allocator's
-- key orders registers as these pairs do: `key_order`. Assumes nothing.
use Rattle.std.specs.Prelude.{◌≡◌, refl, Bool, ◌||◌, cond, false, true, List, [], ◌∷◌, ℕ, suc, pred, ◌+◌, ◌≤◌, ◌<◌, length, leb}
use Rattle.std.proofs.Common.{◌∙◌, arith, leb→le, le→leb}
use Rattle.plan.specs.Lists.{member}
use Rattle.plan.specs.TestLaws.{same_test}
use Rattle.allocate.specs.State.{State, owner_of, reloadable}
use Rattle.allocate.specs.Allocator.{distance, read_later, evict_key}
use Rattle.allocate.specs.RustAllocator.{pair_le}

-- codegen.rs: `next_read(node).unwrap_or(usize::MAX)`: the first op from position k on that reads node n, else `top`
abbrev pub next_read : ℕ → ℕ → List (List ℕ) → ℕ → ℕ
next_read top k [] n = top
next_read top k (r ∷ rs) n = cond (member n r) k (next_read top (suc k) rs n)

-- the position, by the distance
pub next_is : (top k : ℕ) (rs : List (List ℕ)) (n : ℕ) → next_read top k rs n ≡ cond (read_later rs n) (k + distance rs n) top
next_is top k [] n = refl
next_is top k (r ∷ rs) n = go (member n r) (read_later rs n) (next_is top (suc k) rs n)
  where
    go : (a l : Bool) → next_read top (suc k) rs n ≡ cond l (suc k + distance rs n) top
        → cond a k (next_read top (suc k) rs n) ≡ cond (a || l) (k + cond a 0 (suc (distance rs n))) top
    go true l h = omega arith
    go false true h = h ∙ omega arith
    go false false h = h

-- a read is nearer than the end, none is as far as the end
far : (rs : List (List ℕ)) (n : ℕ) → (read_later rs n ≡ true → distance rs n < length rs) × (read_later rs n ≡ false → distance rs n ≡ length rs)
far [] n = ((λ h. let z : ◌≡◌ {A = ℕ} 0 1 = cc in absurd (omega arith)), λ h. refl)
far (r ∷ rs) n = go (member n r) (far rs n)
  where
    go : (a : Bool) → (read_later rs n ≡ true → distance rs n < length rs) × (read_later rs n ≡ false → distance rs n ≡ length rs)
        → ((a || read_later rs n) ≡ true → cond a 0 (suc (distance rs n)) < suc (length rs))
        × ((a || read_later rs n) ≡ false → cond a 0 (suc (distance rs n)) ≡ suc (length rs))
    go true f = ((λ h. omega arith), λ h. let z : ◌≡◌ {A = ℕ} 0 1 = cc in absurd (omega arith))
    go false f = ((λ h. omega (arith, f.0 h)), λ h. omega (arith, f.1 h))

leb_same : (x y u w : ℕ) → (x ≤ y → u ≤ w) → (u ≤ w → x ≤ y) → leb x y ≡ leb u w
leb_same x y u w f g = same_test (leb x y) (leb u w) (λ t. le→leb u w (f (leb→le x y t))) (λ t. le→leb x y (g (leb→le u w t)))

leb_yes : (x y : ℕ) → x ≤ y → leb x y ≡ true
leb_yes x y h = same_test (leb x y) true (λ t. tt) (λ t. le→leb x y h)

leb_no : (x y : ℕ) → y < x → leb x y ≡ false
leb_no x y h = same_test (leb x y) false (λ t. omega (arith, leb→le x y t, h)) (λ t. absurd t)

-- by distance alone, as by position
distance_order : (top k : ℕ) (rs : List (List ℕ)) → k + length rs ≤ top → (v w : ℕ)
    → (distance rs v ≤ distance rs w → next_read top k rs v ≤ next_read top k rs w) × (next_read top k rs v ≤ next_read top k rs w → distance rs v ≤ distance rs w)
distance_order top k rs h v w = rw (next_is top k rs v, next_is top k rs w) (go (read_later rs v) (read_later rs w) refl refl)
  where
    go : (a c : Bool) → read_later rs v ≡ a → read_later rs w ≡ c
        → (distance rs v ≤ distance rs w → cond a (k + distance rs v) top ≤ cond c (k + distance rs w) top)
        × (cond a (k + distance rs v) top ≤ cond c (k + distance rs w) top → distance rs v ≤ distance rs w)
    go true true p q = ((λ l. omega arith), λ l. omega arith)
    go true false p q = ((λ l. omega (arith, (far rs v).0 p)), λ l. omega (arith, (far rs v).0 p, (far rs w).1 q))
    go false true p q = ((λ l. omega (arith, (far rs v).1 p, (far rs w).0 q)), λ l. omega (arith, (far rs v).1 p, (far rs w).0 q))
    go false false p q = ((λ l. omega arith), λ l. omega (arith, (far rs v).1 p, (far rs w).1 q))

end : (rs : List (List ℕ)) (n : ℕ) → distance rs n ≤ length rs
end rs n = go (read_later rs n) refl
  where
    go : (b : Bool) → read_later rs n ≡ b → distance rs n ≤ length rs
    go true q = omega (arith, (far rs n).0 q)
    go false q = omega (arith, (far rs n).1 q)

-- the allocator's key orders registers as the Rust's pairs do, at op position k
pub key_order : (top k : ℕ) (rest : List (List ℕ)) → k + length rest ≤ top → (s : State) (q r : ℕ)
    → leb (evict_key rest s q) (evict_key rest s r)
    ≡ pair_le (reloadable s (pred (owner_of s q))) (next_read top k rest (pred (owner_of s q))) (reloadable s (pred (owner_of s r)))
    (next_read top k rest (pred (owner_of s r)))
unfolding evict_key
key_order top k rest h s q r = go (reloadable s (pred (owner_of s q))) (reloadable s (pred (owner_of s r)))
  where
    v : ℕ
    v = pred (owner_of s q)

    w : ℕ
    w = pred (owner_of s r)

    go : (a c : Bool)
        → leb (cond a (suc (length rest)) 0 + distance rest v) (cond c (suc (length rest)) 0 + distance rest w) ≡ pair_le a (next_read top k rest v) c
        (next_read top k rest w)
    go true true =
        let o = distance_order top k rest h v w in leb_same (suc (length rest) + distance rest v) (suc (length rest) + distance rest w) (next_read top k rest v)
        (next_read top k rest w) (λ l. o.0 (omega arith)) (λ l. omega (arith, o.1 l))
    go true false = leb_no (suc (length rest) + distance rest v) (0 + distance rest w) (omega (arith, end rest w))
    go false true = leb_yes (0 + distance rest v) (suc (length rest) + distance rest w) (omega (arith, end rest v))
    go false false =
        let o = distance_order top k rest h v w in leb_same (0 + distance rest v) (0 + distance rest w) (next_read top k rest v) (next_read top k rest w)
        (λ l. o.0 (omega arith)) (λ l. omega (arith, o.1 l))
