-- Nodes written into a table of words from a position on, and what a run of writes leaves: how the writers of src/macros.rt say what they did.
use Rattle.std.specs.Prelude.{◌≡◌, refl, List, ◌++◌, ℕ, zero, suc, ◌+◌, ◌-◌, ◌*◌, ◌≤◌, ◌<◌, length, get_or, take, drop}
use Rattle.std.proofs.Common.{sym, ap, ◌∙◌, inl, append_assoc, not-suc-le-zero, arith, drop_at, length-take-le}
use Rattle.std.proofs.lemmas.List.Edits.{sets, sets-eq}
use Rattle.std.proofs.Math.Seq.{length-sets}
use Rattle.tables.specs.Stores.{sets_append, sets_out}
use Rattle.expand.specs.Nodes.{Node, words_of}
use Rattle.expand.specs.Words.{words_length, words_append}
use Rattle.expand.specs.Macros.{newton}

-- the nodes ns from position k on
unfoldable pub write : List ℕ → ℕ → List Node → List ℕ
write table k ns = sets table (3 * k) (words_of ns)

pub write_length : (l : List ℕ) (k : ℕ) (ns : List Node) → length (write l k ns) ≡ length l
unfolding write
write_length l k ns = length-sets l (3 * k) (words_of ns)

-- TWO WRITES, one right behind the other, are one
pub join : (l : List ℕ) (k : ℕ) (xs ys : List Node) {m o : List ℕ} {j : ℕ} → m ≡ write l k xs → o ≡ write m j ys → j ≡ k + length xs → o ≡ write l k (xs ++ ys)
unfolding write
join l k xs ys {m} {o} {j} p q e =
    q ∙ rw (p, words_append xs ys) (sets_append l (3 * k) (3 * j) (words_of xs) (words_of ys) (omega (arith, words_length xs)))

-- ---- the turns of the Newton loop, with `left` steps to go
pub newton_turn : (l o : List ℕ) (left k x e two : ℕ) → 0 < left → o ≡ write l k (newton 1 k x e two)
    → write l k (newton left k x e two) ≡ write o (k + 3) (newton (left - 1) (k + 3) x (k + 2) two)
newton_turn l o zero k x e two h p = absurd (not-suc-le-zero h)
newton_turn l o (suc m) k x e two h p =
    let z : suc m - 1 ≡ m = omega arith in
    rw z (sym (join l k (newton 1 k x e two) (newton m (k + 3) x (k + 2) two) p refl (omega arith)))

pub newton_done : (l : List ℕ) (left k x e two : ℕ) → left ≤ 0 → write l k (newton left k x e two) ≡ l
unfolding write
newton_done l left k x e two h = let z : left ≡ 0 = omega arith in rw z

-- ---- before and behind a write
pub write_before : (l : List ℕ) (k : ℕ) (ns : List Node) (j : ℕ) → j < 3 * k → get_or (write l k ns) j 0 ≡ get_or l j 0
unfolding write
write_before l k ns j h = sets_out l (3 * k) (words_of ns) j (inl h)

pub write_behind : (l : List ℕ) (k : ℕ) (ns : List Node) → 3 * (k + length ns) ≤ length l
    → drop (3 * k) (write l k ns) ≡ words_of ns ++ drop (3 * (k + length ns)) l
unfolding write
write_behind l k ns h =
    let z : 3 * k + length (words_of ns) ≡ 3 * (k + length ns) = omega (arith, words_length ns) in
    ap (drop (3 * k)) (sets-eq (words_of ns) l (3 * k) (omega arith) ∙ rw (z, append_assoc))
    ∙ drop_at (take (3 * k) l) _ (3 * k) (length-take-le (3 * k) l (omega arith))
