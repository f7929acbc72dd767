-- Generic: `T` of a conjunction, a disjunction, a negation. Assumes nothing.
use Rattle.std.specs.Prelude.{◌≡◌, refl, Bool, ◌&&◌, ◌||◌, false, not, true, T}

-- a disjunction passes by its first part
pub or_first : (a b : Bool) → T a → T (a || b)
or_first true b t = tt
or_first false b t = absurd t

-- .. by its second
pub or_second : (a b : Bool) → T b → T (a || b)
or_second true b t = tt
or_second false b t = t

-- the first part of a conjunction that passes
pub and_first : (a b : Bool) → T (a && b) → T a
and_first true b t = tt
and_first false b t = t

-- its second
pub and_second : (a b : Bool) → T (a && b) → T b
and_second true b t = t
and_second false b t = absurd t

-- both pass: so does the conjunction
pub and_both : (a b : Bool) → T a → T b → T (a && b)
and_both true b t u = u
and_both false b t u = absurd t

-- what cannot pass passes negated
pub not_pass : (b : Bool) → (T b → ⊥) → T (not b)
not_pass true f = f tt
not_pass false f = tt

-- tests that pass together are one
pub same_test : (a c : Bool) → (T a → T c) → (T c → T a) → a ≡ c
same_test true true f g = refl
same_test true false f g = absurd (f tt)
same_test false true f g = absurd (g tt)
same_test false false f g = refl
