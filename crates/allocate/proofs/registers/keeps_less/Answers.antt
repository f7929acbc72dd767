-- `keeps_less`: one of the two needs a spill, or both or none does. Assumes nothing.
use Rattle.std.proofs.Common.{◌≡◌, refl, ◌∙◌, Bool, true, false, not, cond, List, ℕ, leb}
use mathlib.Core.Bool.{beq}
use Rattle.allocate.specs.declared.Frame.{Frame}
use Rattle.allocate.specs.Registers.{reloads, next_read, keeps_less}
use Rattle.allocate.proofs.registers.keeps_less.Goals as goal

differ : (one two later : Bool) → not (beq one two) ≡ true → one ≡ cond one (cond two later true) (cond two false later)
differ true true later h = cc
differ true false later h = refl
differ false true later h = refl
differ false false later h = cc

alike : (one two later : Bool) → not (beq one two) ≡ false → later ≡ cond one (cond two later true) (cond two false later)
alike true true later h = refl
alike true false later h = cc
alike false true later h = cc
alike false false later h = refl

by_reads : (frame : Frame) (work : List ℕ) (a b : ℕ) (one two : Bool) (x y : ℕ) → one ≡ reloads frame work a → two ≡ reloads frame work b
    → x ≡ next_read frame work b → y ≡ next_read frame work a → not (beq one two) ≡ false → leb x y ≡ keeps_less frame work a b
unfolding keeps_less
by_reads frame work a b one two x y p q r s h = alike one two (leb x y) h ∙ rw (p, q, r, s)

by_spills : (frame : Frame) (work : List ℕ) (a b : ℕ) (one two : Bool) → one ≡ reloads frame work a → two ≡ reloads frame work b
    → not (beq one two) ≡ true → one ≡ keeps_less frame work a b
unfolding keeps_less
by_spills frame work a b one two p q h = differ one two (leb (next_read frame work b) (next_read frame work a)) h ∙ rw (p, q)

pub returns-then-one-two : goal.returns-then-one-two
returns-then-one-two c = by_spills _ _ _ _ _ _ c.reloadable-one.ensures c.reloadable-two.ensures c.if-one-two.true

pub returns : goal.returns
returns c = by_reads _ _ _ _ _ _ _ _ c.reloadable-one.ensures c.reloadable-two.ensures c.next_read.ensures c.next_read-2.ensures c.if-one-two.false
