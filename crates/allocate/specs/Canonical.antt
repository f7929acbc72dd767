-- What is read is its source's first node. Assumes nothing.
use Rattle.std.proofs.Common.{◌∙◌, ap, subst, sym, inl, inr, arith, eqb→eq}
use Rattle.std.specs.Prelude.{◌≡◌, refl, ◌⊎◌, Bool, false, List, [], ◌∷◌, pred, suc, zero, ℕ, get_or, set, T, eqb}
use Rattle.std.proofs.Math.Dec.{eqb_refl}
use Rattle.tables.specs.Tests.{or_pass}
use Rattle.plan.specs.Origins.{Origin, no_origin, immediate, loaded, origin_at, home_of, is_load, canonical, canonical_as}
use Rattle.plan.specs.Lists.{member}
use Rattle.plan.specs.Nodes.{operands, node_at}
use Rattle.plan.specs.Schedule.{Task, compute_task, keep_task, store_task, task_reads}
use Rattle.plan.specs.TestLaws.{and_both}
use Rattle.plan.specs.ListLaws.{member_map}
use Rattle.plan.specs.OriginLaws.{home_finds, origin_inside, home_origin}
use Rattle.allocate.specs.State.{Setting}

-- n is the first of its source
abbrev pub Canonical : Setting → ℕ → Type 0
Canonical e n = (c i : ℕ) → origin_at e.origins n ≡ loaded c i → home_of e.origins c i ≡ suc n

-- a source's first node is canonical
pub home_canonical : (e : Setting) (c i n : ℕ) → home_of e.origins c i ≡ suc n → Canonical e n
home_canonical e c i n h c' i' q =
    let p : origin_at e.origins n ≡ loaded c i = home_origin e.origins c i n h in
    let cc' : c ≡ c' = cc in
    let ii' : i ≡ i' = cc in
    rw (← cc', ← ii') h

-- so is what `canonical` gives
pub canonical_canonical : (e : Setting) (a : ℕ) → Canonical e (canonical e.origins a)
unfolding canonical canonical_as
canonical_canonical e a = go (origin_at e.origins a) refl
  where
    go : (x : Origin) → origin_at e.origins a ≡ x → Canonical e (canonical_as e.origins a x)
    go no_origin q c i h = let z : ◌≡◌ {A = ℕ} 0 1 = cc in absurd (omega arith)
    go (immediate b) q c i h = let z : ◌≡◌ {A = ℕ} 0 1 = cc in absurd (omega arith)
    go (loaded c₀ i₀) q c i h =
        let own : T (is_load c₀ i₀ (origin_at e.origins a)) = rw q (and_both (eqb c₀ c₀) (eqb i₀ i₀) (eqb_refl c₀) (eqb_refl i₀)) in
        let f : (m : ℕ) × (home_of e.origins c₀ i₀ ≡ suc m) = home_finds e.origins c₀ i₀ a (origin_inside e.origins a (rw q tt)) own in
        let pm : pred (home_of e.origins c₀ i₀) ≡ f.0 = ap pred f.1 ∙ omega arith in
        subst (λ (k : ℕ). Canonical e k) (sym pm) (home_canonical e c₀ i₀ f.0 f.1) c i h

-- so is what a task reads
pub reads_canonical : (e : Setting) (o : Task) (m : ℕ) → T (member m (task_reads e.nodes e.origins o)) → Canonical e m
unfolding task_reads
reads_canonical e (compute_task n) m t =
    let r = member_map (canonical e.origins) (operands (node_at e.nodes n)) m t in subst (λ (k : ℕ). Canonical e k) (sym r.2) (canonical_canonical e r.0)
reads_canonical e (keep_task k v) m t = one_canonical e v m (or_pass (eqb m (canonical e.origins v)) false t)
  where
    one_canonical : (e : Setting) (v m : ℕ) → T (eqb m (canonical e.origins v)) ⊎ ⊥ → Canonical e m
    one_canonical e v m (inl u) = subst (λ (k : ℕ). Canonical e k) (sym (eqb→eq m (canonical e.origins v) u)) (canonical_canonical e v)
    one_canonical e v m (inr u) = absurd u
reads_canonical e (store_task c i v) m t = one_canonical e v m (or_pass (eqb m (canonical e.origins v)) false t)
  where
    one_canonical : (e : Setting) (v m : ℕ) → T (eqb m (canonical e.origins v)) ⊎ ⊥ → Canonical e m
    one_canonical e v m (inl u) = subst (λ (k : ℕ). Canonical e k) (sym (eqb→eq m (canonical e.origins v) u)) (canonical_canonical e v)
    one_canonical e v m (inr u) = absurd u

-- a flag that is cleared is clear
pub off_at : (l : List Bool) (n : ℕ) → get_or (set l n false) n false ≡ false
off_at [] n = refl
off_at (x ∷ xs) zero = refl
off_at (x ∷ xs) (suc n) = off_at xs n
