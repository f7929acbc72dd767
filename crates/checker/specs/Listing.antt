-- What the walk's clauses say of a listing as the code has it, and of the work table. Definitions alone.
use Rattle.std.specs.Prelude.{Bool, List, ℕ, Result}
use Rattle.answers.specs.declared.Refusal.{Refusal}
use Rattle.expand.specs.Graph.{Graph}
use Rattle.kernel.specs.declared.Phase.{Phase}
use Rattle.checker.specs.declared.Listing as Code
use Rattle.checker.specs.Walk.{Listing}
use Rattle.checker.specs.Table.{graph_from, listing_from, Ready}
use Rattle.checker.specs.WalkLaws.{Fit, Taken, Walked}

abbrev pub the_graph : Code.Listing → Graph
the_graph l = graph_from l.terms l.nodes.now l.updates.now l.stores.now

abbrev pub the_listing : Code.Listing → Listing
the_listing l = listing_from l.terms l.nodes.now l.updates.now l.stores.now l.steps.now l.instructions.now

abbrev pub IsReady : Code.Listing → List ℕ → Type 0
IsReady l work = Ready l.terms l.nodes.now l.updates.now l.stores.now l.instructions.now work

abbrev pub IsFit : Code.Listing → List ℕ → Type 0
IsFit l work = Fit l.terms l.nodes.now l.updates.now l.stores.now l.steps.now l.instructions.now work

abbrev pub IsTaken : Code.Listing → Phase → Bool → ℕ → List ℕ → List ℕ → Bool → Type 0
IsTaken l phase last at old new passes =
    Taken l.terms l.nodes.now l.updates.now l.stores.now l.steps.now l.instructions.now phase last at old new passes

abbrev pub IsWalked : Code.Listing → Phase → ℕ → ℕ → List ℕ → List ℕ → Result Unit Refusal → Type 0
IsWalked l phase first count old new verdict =
    Walked l.terms l.nodes.now l.updates.now l.stores.now l.steps.now l.instructions.now phase first count old new verdict
