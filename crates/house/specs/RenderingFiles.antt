-- Document 01, "House file": "Reading back gives the same tables, and no other bytes do"; a file of one kind never reads as another. Assumes nothing.
use Rattle.std.specs.Prelude.{◌≡◌, ℕ, suc, ◌+◌, ◌<◌, ◌≤◌, Bool, true, false, List, ◌∷◌, length, take, ◌==◌, nat_lt, slice_index, refl}
use Rattle.std.proofs.Common.{sym, ap, ◌∙◌, arith, ext_get_or, ltb-false, eqb-true}
use Rattle.std.proofs.lemmas.Bool.{eqb-false}
use Rattle.tables.specs.Tests.{neither, same_of}
use Rattle.tables.specs.Stores.{Each}
use Rattle.tables.specs.Zeros.{copied}
use Rattle.tables.specs.Lists.{list_of, list_length, list_at}
use Rattle.answers.specs.Numbers.{accepted}
use Rattle.answers.specs.OrderLaws.{then_accepted, refuse_accepted}
use Rattle.house.specs.Generic.{copied_first, list_add}
use Rattle.house.specs.declared.Engine.{Engine}
use Rattle.house.specs.declared.Engine.TheVariants.{Graph, Steps}
use Rattle.house.specs.declared.Rendering.{Rendering}
use Rattle.house.specs.Frame.{graph_kind, step_kind, kind_in, payload_length, payload_word, payload_from, section}
use Rattle.house.specs.Framed.{Framed, framed}
use Rattle.house.specs.File.{file_of}
use Rattle.house.specs.FileLaws.{file_length}
use Rattle.house.specs.Payload.{kind_of, engine_of, rendering_in, samples_at, rendering_payload, rendering_file}
use Rattle.house.specs.Read.{read_rendering_answer, read_samples, RenderingOutcome, rendering_outcome, read_rendering_call}
use Rattle.house.specs.ReadLaws.{rendering_done}
use Rattle.house.specs.Write.{written_bytes, most_samples, rendering_bytes, write_rendering_answer, write_rendering_call}
use Rattle.house.specs.ReadBack.{kind_is, frame_accepted, payload_length_is, payload_word_is}
use Rattle.house.specs.Canonical.{Byte, payload_of, canonical}

-- ---- parts of both

-- a section whose words are those of a list
pub section_is : (x : List ℕ) (from n : ℕ) (l : List ℕ) → n ≡ length l → ((j : ℕ) → j < n → payload_word x (from + j) ≡ slice_index l j) → section x from n ≡ l
section_is x from n l e h =
    let s = list_length (payload_from x from) n in
    ext_get_or 0 (section x from n) l (omega arith) (λ i g. list_at (payload_from x from) n i (omega arith) ∙ h i (omega arith))

kind_engine : (e : Engine) → engine_of (kind_of e) ≡ e
kind_engine Graph = refl
kind_engine Steps = refl

kind_bounds : (e : Engine) → (graph_kind ≤ kind_of e) × (kind_of e ≤ step_kind)
kind_bounds Graph = (omega arith, omega arith)
kind_bounds Steps = (omega arith, omega arith)

engine_kind : (k : ℕ) → graph_kind ≤ k → k ≤ step_kind → k ≡ kind_of (engine_of k)
engine_kind k g h = go (k == 2) refl
  where
    go : (b : Bool) → (k == 2) ≡ b → k ≡ kind_of (engine_of k)
    go true e = rw e (eqb-true k 2 e)
    go false e = let n = eqb-false k 2 e in rw e (omega arith)

-- ---- READING BACK A RENDERING gives its engine and its samples
pub read_back_rendering : (e : Engine) (s t : List ℕ) → length s ≤ length t
    → read_rendering_call (rendering_file e s) t ≡ rendering_outcome (accepted (record { engine = e; samples = length s })) (copied s t)
read_back_rendering e s t h =
    let k = kind_bounds e in
    let l = payload_length_is (kind_of e) (rendering_payload s) (omega arith) in
    let v = section_is (rendering_file e s) 1 (length s) s refl
    (λ j g. let z : 1 + j ≡ suc j = omega arith in payload_word_is (kind_of e) (rendering_payload s) (1 + j) (omega arith) ∙ rw z) in
    sym
    (rendering_done (rendering_file e s) t (frame_accepted graph_kind step_kind (kind_of e) (rendering_payload s) k.0 k.1 (omega arith)) (length s) (suc (length s))
    (sym (payload_word_is (kind_of e) (rendering_payload s) 0 (omega arith))) (sym l) (omega arith) {k = kind_of e} h (ap (λ (y : List ℕ). copied y t) (sym v))
    (sym (kind_is (kind_of e) (rendering_payload s) 0 (omega arith))) (sym (kind_engine e)))

-- the file is what the first bytes of a buffer are after writing
pub written_rendering : (e : Engine) (s bytes : List ℕ) (n : ℕ) → (write_rendering_call e s bytes).answer ≡ accepted n → take n (write_rendering_call e s bytes).bytes ≡ rendering_file e s
unfolding write_rendering_call write_rendering_answer written_bytes
written_rendering e s bytes n a =
    let p = then_accepted _ _ a in
    let q = neither (nat_lt most_samples (length s)) (nat_lt (length bytes) (rendering_bytes s)) (refuse_accepted 13 _ p.0) in
    let r : rendering_bytes s ≡ n = cc in
    let l = file_length (kind_of e) (rendering_payload s) in
    rw a (copied_first (rendering_file e s) bytes n (l ∙ r) (rw (← r) (ltb-false _ _ q.1)))

pub read_after_write_rendering : (e : Engine) (s bytes t : List ℕ) (n : ℕ) → (write_rendering_call e s bytes).answer ≡ accepted n → length s ≤ length t
    → read_rendering_call (take n (write_rendering_call e s bytes).bytes) t ≡ rendering_outcome (accepted (record { engine = e; samples = length s })) (copied s t)
read_after_write_rendering e s bytes t n a h = ap (λ (x : List ℕ). read_rendering_call x t) (written_rendering e s bytes n a) ∙ read_back_rendering e s t h

-- ---- what an accepted rendering is
pub record ReadsRendering (x t : List ℕ) (r : Rendering) : Type 0 where
  pub frame : Framed graph_kind step_kind x
  pub ends : payload_length x ≡ samples_at + r.samples
  pub room : r.samples ≤ length t
  pub says : r ≡ rendering_in x

pub reads_rendering : (x t : List ℕ) (r : Rendering) → read_rendering_answer x t ≡ accepted r → ReadsRendering x t r
unfolding read_rendering_answer
reads_rendering x t r a =
    let p = then_accepted _ _ a in
    let q = then_accepted _ _ p.1 in
    let o = then_accepted _ _ q.1 in
    let s : rendering_in x ≡ r = cc in
    let m : (rendering_in x).samples ≡ r.samples = ap (λ (y : Rendering). y.samples) s in
    record {
      frame = framed graph_kind step_kind x p.0;
      ends = same_of _ _ (refuse_accepted 21 _ q.0) ∙ ap (λ (y : ℕ). samples_at + y) m;
      room = omega (arith, ltb-false (length t) (rendering_in x).samples (refuse_accepted 13 _ o.0));
      says = sym s;
    }

-- A FILE OF ONE KIND NEVER READS AS ANOTHER: the engine that is told is the one that the first word of the file names
pub kind_told : (x t : List ℕ) (r : Rendering) → read_rendering_answer x t ≡ accepted r → kind_in x 0 ≡ kind_of r.engine
kind_told x t r a =
    let v = reads_rendering x t r a in
    let o = v.frame.some in
    let s = v.frame.sound 0 (omega arith) in
    engine_kind (kind_in x 0) s.from s.up_to ∙ ap (λ (y : Rendering). kind_of y.engine) (sym v.says)

-- so a graph rendering never reads as a step rendering, nor the other way round
pub graph_told : (x t : List ℕ) (r : Rendering) → read_rendering_answer x t ≡ accepted r → kind_in x 0 ≡ graph_kind → r.engine ≡ Graph
graph_told x t r a e = ap (λ (y : Rendering). y.engine) (reads_rendering x t r a).says ∙ ap engine_of e

pub steps_told : (x t : List ℕ) (r : Rendering) → read_rendering_answer x t ≡ accepted r → kind_in x 0 ≡ step_kind → r.engine ≡ Steps
steps_told x t r a e = ap (λ (y : Rendering). y.engine) (reads_rendering x t r a).says ∙ ap engine_of e

-- ---- NO OTHER BYTES: a file that reads as a rendering is the file that is written of its engine and its samples
pub only_rendering : (x t : List ℕ) (r : Rendering) → Each Byte x → (read_rendering_call x t).answer ≡ accepted r
    → x ≡ rendering_file r.engine (take r.samples (read_rendering_call x t).samples)
unfolding read_rendering_call read_samples list_of
only_rendering x t r h a =
    let v = reads_rendering x t r a in
    let n : payload_word x 0 ≡ r.samples = sym (ap (λ (y : Rendering). y.samples) v.says) in
    let l = list_length (payload_from x 1) r.samples in
    let c = copied_first (section x 1 r.samples) t r.samples l v.room in
    let p : payload_of x ≡ rendering_payload (section x 1 r.samples) =
    ap (list_of (payload_word x)) v.ends ∙ (list_add (payload_word x) 1 r.samples ∙ ap (λ (y : ℕ). y ∷ section x 1 r.samples) (n ∙ sym l)) in
    canonical graph_kind step_kind x v.frame h
    ∙ (ap (file_of (kind_in x 0)) p ∙ (ap (λ (k : ℕ). file_of k (rendering_payload (section x 1 r.samples))) (kind_told x t r a)
    ∙ rw (a, c)))

pub no_other_rendering : (x y t : List ℕ) (r : Rendering) → Each Byte x → Each Byte y → (read_rendering_call x t).answer ≡ accepted r → read_rendering_call x t ≡ read_rendering_call y t → x ≡ y
no_other_rendering x y t r h g a e =
    let b : (read_rendering_call y t).answer ≡ accepted r = ap (λ (o : RenderingOutcome). o.answer) (sym e) ∙ a in
    only_rendering x t r h a
    ∙ (ap (λ (o : RenderingOutcome). rendering_file r.engine (take r.samples o.samples)) e ∙ sym (only_rendering y t r g b))
