-- A whole call of the copier: the refusals in order, what is owed goes out first, and the loop goes on from there.
use mathlib.Core.Path.{◌≡◌, refl, sym, ap, ◌∙◌, subst}
use mathlib.Core.Bool.{Bool, true, false, ◌&&◌}
use mathlib.Core.List.{List}
use Prim.Native.Nat.{ℕ, ◌+◌, ◌-◌, ◌<◌, ◌≤◌}
use native.Mathlib.Omega.{arith}
use lib.ListN.{length, drop, length-drop}
use borrow.Author.Tests.{leb-true, le-leb, eqb-true}
use Rattle.std.specs.Prelude.{Ok}
use Rattle.layout.specs.Limits.{base}
use Rattle.machine.specs.Calls.{State, reading, owing, broke}
use Rattle.types.specs.Types.{number_of, refusal}
use Rattle.types.specs.declared.Error.{Error}
use Rattle.refusals.specs.Judged.{Judgement, accepted, refused_with}
use Rattle.istream.specs.declared.IStream.{IStream}
use Rattle.phase.specs.declared.Phase as code
use Rattle.phase.specs.declared.Phase.TheVariants as phases
use Rattle.phase.specs.Phases.{state_at}
use Rattle.istream.specs.Stream.{state_of, sound_stream}
use Rattle.phase.proofs.Phases.{Live}
use Rattle.istream.proofs.Calls.{stream_back}
use Rattle.phase.proofs.Phases.{both}
use Rattle.putting.specs.Put.{put, reached}
use Rattle.ostream.specs.Stream as writer
use Rattle.copying.specs.Owed as copying
use Rattle.copying.specs.Owed.{nothing, owes, rest, further, depth_by, depth_once, agrees}
use Rattle.copying.specs.Copy.{full, settled, filled, copy}
use Rattle.copying.specs.Refusals.{is_broke, refusing}
use Rattle.copying.proofs.Turns.{copy_full, copy_settles}
use Rattle.copying.proofs.Refusals.{with_parts}
use Rattle.turns.specs.declared.Answer.TheVariants.{Full}
use Rattle.turns.specs.declared.Stop.{Stop}
use Rattle.turns.specs.Turns.{ended_in, Stops, Ran}
use Rattle.owed.specs.declared.Owed.{Owed}
use Rattle.owed.specs.declared.Owed.TheVariants as owed
use Rattle.output.specs.declared.Output.{Output}
use Rattle.owed.specs.Owed.{owed_of, owed_in, place_in, output_of, level_of, legal_of, place_is_in}
use Rattle.output.specs.Output.{output_bytes}
use Rattle.owed.proofs.Laws.{owed_back, spelled, sound_parts}
use Rattle.copier.specs.declared.Copier.{Copier}
use Rattle.copier.specs.declared.Copied as results
use Rattle.copier.specs.Copier.{copy_of, sound_reader, sound_writer}
use Rattle.copier.specs.Calls.{Said, Outcome, result_of, result_in, untouched, copied}
use Rattle.copier.specs.Feeding.{refused, finished, result_with, Ready}
use Rattle.copier_refusals.specs.Checked.{judged_by}
use Rattle.copier_refusals.proofs.Tests.{sound-whole}
use Rattle.copier_refusals.proofs.Judged.{all_pass}

-- ---- a sound copier

live_not_broke : (st : State) → Live st → is_broke st ≡ false
live_not_broke (reading d p) l = refl
live_not_broke (owing d id r) l = refl
live_not_broke broke l = absurd l

live_if : (st : State) → is_broke st ≡ false → Live st
live_if (reading d p) e = tt
live_if (owing d id r) e = tt
live_if broke e = absurd cc

pub ready_within : (k : Copier) (size : ℕ) → sound_writer k size ≡ true → k.writer.offset ≤ size
unfolding sound_writer writer.sound_stream
ready_within k size e = leb-true _ _ (both _ _ (with_parts base (writer.sound_stream k.writer size) k.writer.npending (copy_of k) e).0).0

ready_agrees : (k : Copier) (size : ℕ) → Live (state_of k.reader) → sound_writer k size ≡ true → agrees base k.reader.carried.depth k.writer.depth (owed_of k.owed k.place) ≡ true
unfolding sound_writer
ready_agrees k size l e = sym (sound-whole k.reader k.writer.depth k.owed k.place (live_not_broke (state_of k.reader) l)) ∙ (with_parts base (writer.sound_stream k.writer size) k.writer.npending (copy_of k) e).2

-- "depths equal once any owed event is written"
level_once : (r w : ℕ) (o : Owed) (place : ℕ) → level_of r w o ≡ true → depth_once w (owed_of o place) ≡ r
unfolding depth_once depth_by
level_once r w owed.Nothing place e = sym (eqb-true r w e)
level_once r w (owed.Unsigned id n) place e = sym (eqb-true r w e)
level_once r w (owed.Signed id z) place e = sym (eqb-true r w e)
level_once r w (owed.Element n) place e = sym (eqb-true r w e)
level_once r w (owed.SignedElement z) place e = sym (eqb-true r w e)
level_once r w (owed.Fp32 bits) place e = sym (eqb-true r w e)
level_once r w (owed.Fp64 bits) place e = sym (eqb-true r w e)
level_once r w (owed.Float id f) place e = sym (eqb-true r w e)
level_once r w (owed.Payload id t total) place e = sym (eqb-true r w e)
level_once r w (owed.Array id k n) place e = sym (eqb-true r w e)
level_once r w (owed.Begin id) place e = let h : r ≡ w + 1 = eqb-true r (w + 1) e in omega arith
level_once r w owed.End place e = let h : r + 1 ≡ w = eqb-true (r + 1) w e in omega arith

ready_depth : (k : Copier) (size : ℕ) → Live (state_of k.reader) → sound_writer k size ≡ true → depth_once k.writer.depth (owed_of k.owed k.place) ≡ k.reader.carried.depth
ready_depth k size l e =
    level_once k.reader.carried.depth k.writer.depth k.owed k.place (both (level_of k.reader.carried.depth k.writer.depth k.owed) (legal_of k.owed && place_is_in k.owed k.place) (sym (sound_parts k.reader.carried.depth k.writer.depth k.owed k.place) ∙ ready_agrees k size l e)).0

-- ---- what is owed goes out

further_back : (x : copying.Owed) (n : ℕ) → owed_in (further x n) ≡ owed_in x
unfolding further
further_back nothing n = refl
further_back (owes due e place) n = refl

further_place : (o : Owed) (place n : ℕ) → 0 < length (rest (owed_of o place)) → place_in (further (owed_of o place) n) ≡ place + n
unfolding further rest
further_place owed.Nothing place n h = absurd (omega arith)
further_place (owed.Unsigned id m) place n h = refl
further_place (owed.Signed id z) place n h = refl
further_place (owed.Element m) place n h = refl
further_place (owed.SignedElement z) place n h = refl
further_place (owed.Fp32 bits) place n h = refl
further_place (owed.Fp64 bits) place n h = refl
further_place (owed.Float id w) place n h = refl
further_place (owed.Payload id r total) place n h = refl
further_place (owed.Array id k m) place n h = refl
further_place (owed.Begin id) place n h = refl
further_place owed.End place n h = refl

module _ (k : Copier) (c b : List ℕ) (end len : ℕ) (b' : List ℕ) (x : Output) (e : x ≡ output_of k.owed) (l : len ≡ length (output_bytes x))
    (p : (end ≡ reached b k.writer.offset (drop k.place (output_bytes x))) × (b' ≡ put b k.writer.offset (drop k.place (output_bytes x)))) where
  still : rest (owed_of k.owed k.place) ≡ drop k.place (output_bytes x)
  still = spelled k.owed k.place ∙ ap (λ (y : Output). drop k.place (output_bytes y)) (sym e)

  long : length (rest (owed_of k.owed k.place)) ≡ len - k.place
  long = ap length still ∙ length-drop k.place (output_bytes x) ∙ ap (λ (n : ℕ). n - k.place) (sym l)

  ends : reached b k.writer.offset (rest (owed_of k.owed k.place)) ≡ end
  ends = ap (reached b k.writer.offset) still ∙ sym p.0

  puts : put b k.writer.offset (rest (owed_of k.owed k.place)) ≡ b'
  puts = ap (put b k.writer.offset) still ∙ sym p.1

  pub carry_full : Live (state_of k.reader) → length b - k.writer.offset + k.place < len
      → Stops (copy base (copy_of k) c b) (record { used = 0; answer = Ok Full; reader = k.reader; depth = k.writer.depth; pos = end; owed = k.owed; place = k.place + (end - k.writer.offset) }) b'
  carry_full lv h =
      let f : length b - k.writer.offset < length (rest (owed_of k.owed k.place)) = omega (arith, long) in
      let q = copy_full base (copy_of k) c b f ∙ ap (λ (n : ℕ). record { used = 0; answer = full; copy = filled (copy_of k) n; buf = put b k.writer.offset (rest (owed_of k.owed k.place)) }) ends ∙ ap (λ (y : List ℕ). record { used = 0; answer = full; copy = filled (copy_of k) end; buf = y }) puts in
      let r = stream_back k.reader.carried.depth k.reader.phase lv in
      let o = further_back (owed_of k.owed k.place) (end - k.writer.offset) ∙ owed_back k.owed k.place in
      let m = further_place k.owed k.place (end - k.writer.offset) (omega arith) in
      ap ended_in q ∙ (λ i. record { used = 0; said = Said.full; reader = r i; depth = k.writer.depth; pos = end; owed = o i; place = m i; buf = b' })

  pub carry_runs : Ready k (length b) → len ≤ length b - k.writer.offset + k.place → (t : Stop) (b'' : List ℕ) → Ran k.reader end c b' t b'' → Stops (copy base (copy_of k) c b) t b''
  carry_runs ((s, lv), g) h t b'' ran =
      let f : length (rest (owed_of k.owed k.place)) ≤ length b - k.writer.offset = omega (arith, long) in
      let d = ready_depth k (length b) lv g in
      let q =
      copy_settles base (copy_of k) c b f ∙ ap (λ (n : ℕ). copy base (settled (copy_of k) n) c (put b k.writer.offset (rest (owed_of k.owed k.place)))) ends
      ∙ ap (λ (y : List ℕ). copy base (settled (copy_of k) end) c y) puts
      ∙ ap (λ (n : ℕ). copy base (record { reader = state_of k.reader; depth = n; pos = end; owed = nothing }) c b') d in
      ap ended_in q ∙ ran

-- ---- the refusals

reader_sound : (s : IStream) → s.carried.depth ≤ base.depth → sound_reader s ≡ sound_stream base s
unfolding sound_stream
reader_sound s h = go s.phase refl
  where
    by : code.Phase → Bool
    by p = elim (state_at s.carried.depth p) [ reading d q ↦ sound_stream base s | owing d id r ↦ sound_stream base s | broke ↦ true ]

    go : (p : code.Phase) → s.phase ≡ p → by s.phase ≡ sound_stream base s
    go (phases.Header a) e = ap by e
    go (phases.Unsigned id left a) e = ap by e
    go (phases.Signed id left a) e = ap by e
    go (phases.Word id a) e = ap by e
    go (phases.UnsignedCount id a) e = ap by e
    go (phases.SignedCount id a) e = ap by e
    go (phases.FloatCount id a) e = ap by e
    go (phases.ArrayWord id count a) e = ap by e
    go (phases.Float id w left k v) e = ap by e
    go (phases.Payload id r total o) e = ap by e
    go (phases.Empty id r) e = ap by e
    go phases.Broken e = ap by e ∙ sym (simp (e, le-leb s.carried.depth base.depth h))

module _ (k : Copier) (c b : List ℕ) (h : k.reader.carried.depth ≤ base.depth) where
  -- the result by what the tests come to
  abbrev result_by : Judgement → Outcome
  result_by accepted = result_in k (copy base (copy_of k) c b)
  result_by (refused_with e) = untouched (number_of e) k b

  refuses_by : (reader writer broken : Bool) → refusing reader writer broken (λ n. untouched n k b) (result_by accepted) ≡ result_by (refusing reader writer broken (λ n. refused_with (refusal n)) accepted)
  unfolding refusing
  refuses_by true true true = refl
  refuses_by true true false = refl
  refuses_by true false broken = refl
  refuses_by false writer broken = refl

  abbrev tests : Judgement
  tests = judged_by k.reader k.writer k.owed k.place (length b)

  judges : copied k c b ≡ result_by tests
  unfolding copied sound_writer
  judges =
      ap (λ (t : Bool). refusing t (sound_writer k (length b)) (is_broke (state_of k.reader)) (λ n. untouched n k b) (result_by accepted)) (reader_sound k.reader h)
      ∙ refuses_by (sound_stream base k.reader) (sound_writer k (length b)) (is_broke (state_of k.reader))

  pub feed-refused : (e : Error) → tests ≡ refused_with e → result_of (refused e k) b ≡ copied k c b
  feed-refused e t = sym (judges ∙ ap result_by t)

  pub feed_runs : tests ≡ accepted → (t : Stop) (b' : List ℕ) → Stops (copy base (copy_of k) c b) t b' → (r : results.Copied) → r ≡ finished k.writer t → result_of r b' ≡ copied k c b
  feed_runs p t b' q r i = ap (λ (x : results.Copied). result_of x b') i ∙ sym (judges ∙ ap result_by p ∙ ap (result_with k.writer) q)

-- a copier whose tests pass goes on
pub feed_ready : (k : Copier) (size : ℕ) → judged_by k.reader k.writer k.owed k.place size ≡ accepted → Ready k size
unfolding sound_writer
feed_ready k size p =
    let q = all_pass (sound_stream base k.reader) (sound_writer k size) (is_broke (state_of k.reader)) p in
    ((q.0, live_if (state_of k.reader) q.2), q.1)
