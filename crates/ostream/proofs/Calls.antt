-- What a sound state is known to be, and the ways that a call ends.
use mathlib.Core.Path.{◌≡◌, refl, sym, ap, ◌∙◌, subst}
use mathlib.Core.List.{List, [], ◌∷◌, ◌++◌}
use mathlib.Core.Bool.{Bool, true, false}
use Prim.Native.Nat.{ℕ, ◌+◌, ◌-◌, ◌≤◌, ◌<◌}
use native.Mathlib.Omega.{arith}
use lib.Dec.{leb, eqb, ltb}
use lib.ListN.{length, take, drop, length-drop}
use borrow.Author.Tests.{leb-true, leb-false, ltb-false, eqb-false, le-leb}
use Rattle.layout.specs.Limits.{base, pick}
use Rattle.layout.specs.Field.{header, each, t_begin}
use Rattle.types.specs.declared.Error.{Error}
use Rattle.types.specs.Types.{refusal}
use Rattle.putting.specs.Put.{put}
use Rattle.putting.proofs.Writes.{put-none}
use Rattle.std.specs.Prelude.{Result, Ok, Err}
use Rattle.outcomes.specs.declared.Reach.{Reach}
use Rattle.outcomes.specs.declared.Reach.TheVariants.{Through, Full}
use Rattle.outcomes.specs.Outcome.{reaches}
use Rattle.checks.specs.Check.{check_of}
use Rattle.checks.proofs.Checks.{passed, check_fails, check_sound}
use Rattle.held.specs.Headers.{headers_of, buffer_after, Ended}
use Rattle.write_slowly.specs.Went.{Went, went_by, goes_by, field_from}
use Rattle.ostream.specs.declared.OStream.{OStream}
use Rattle.ostream.specs.declared.Answer.TheVariants as Answers
use Rattle.ostream.specs.declared.Written.{Written}
use Rattle.ostream.specs.Stream.{every, sound_stream, lazy_depth, held_bytes, zeroed, committed, at}
use Rattle.ostream.specs.Private.{Clears, settled, unwritten}
use Rattle.ostream.specs.Calls.{unsound, too_deep, none_open, id_too_large}
use Rattle.ostream.specs.Emission.{Test, Call, Judgement, accepted, refused_with, judged, through, result_of, refused, emitted_by, emitted, written_by, written}
pub use Rattle.places.proofs.Places.{both}

-- ---- a sound state

pub record Sound (s : OStream) (size : ℕ) : Type 0 where
  pub inside : s.offset ≤ size
  pub few : s.npending ≤ lazy_depth
  pub nested : s.npending ≤ s.depth
  pub shallow : s.depth ≤ base.depth
  pub legal : every (λ x. leb x base.id) (take s.npending s.pending) ≡ true
  pub zeros : every (λ x. eqb x 0) (drop s.npending s.pending) ≡ true

pub is_sound : (s : OStream) (size : ℕ) → sound_stream s size ≡ true → Sound s size
unfolding sound_stream
is_sound s size e =
    let a = both _ _ e in
    let b = both _ _ a.1 in
    let c = both _ _ b.1 in
    let d = both _ _ c.1 in
    let f = both _ _ d.1 in
    record { inside = leb-true _ _ a.0; few = leb-true _ _ b.0; nested = leb-true _ _ c.0; shallow = leb-true _ _ d.0; legal = f.0; zeros = f.1 }

-- a test that passes can be left out
pub without : (t u : Test) (ts : List Test) → judged (t ∷ u ∷ ts) ≡ accepted → judged (t ∷ ts) ≡ accepted
without t u ts e =
    let p = passed t (u ∷ ts) e in
    ap (λ (b : Bool). pick b (refused_with t.error) (judged ts)) p.0 ∙ (passed u ts p.1).1

-- and what an open knows, and a close
pub begin_knows : (s : OStream) (size id : ℕ) → judged (unsound s size ∷ too_deep s ∷ id_too_large id ∷ []) ≡ accepted → Sound s size × (s.depth < base.depth)
begin_knows s size id e = (
  is_sound s size (check_sound (sound_stream s size) (too_deep s ∷ id_too_large id ∷ []) e),
  leb-false _ _ (passed (too_deep s) (id_too_large id ∷ []) (passed (unsound s size) (too_deep s ∷ id_too_large id ∷ []) e).1).0,
)

pub end_knows : (s : OStream) (size : ℕ) → judged (unsound s size ∷ none_open s ∷ []) ≡ accepted → (sound_stream s size ≡ true) × (0 < s.depth)
end_knows s size e =
    let d : eqb s.depth 0 ≡ false = (passed (none_open s) [] (passed (unsound s size) (none_open s ∷ []) e).1).0 in
    (check_sound (sound_stream s size) (none_open s ∷ []) e, some s.depth d)
  where
    some : (n : ℕ) → eqb n 0 ≡ false → 0 < n
    some n h = let z : ¬ (n ≡ 0) = eqb-false n 0 h in omega arith

-- where nothing is held, nothing is to be cleared
pub committed-none : (s : OStream) (depth : ℕ) → s.npending ≡ 0 → record { offset = s.offset; depth = depth; pending = s.pending; npending = s.npending } ≡ committed s depth
unfolding committed
committed-none s depth e =
    let z : s.pending ≡ zeroed s.npending s.pending = sym (ap (λ (n : ℕ). zeroed n s.pending) e) in
    ap (λ (n : ℕ). record { offset = s.offset; depth = depth; pending = s.pending; npending = n }) e
    ∙ ap (λ (l : List ℕ). record { offset = s.offset; depth = depth; pending = l; npending = 0 }) z

-- none held, no header
pub none_held : (s : OStream) → s.npending ≡ 0 → held_bytes s ≡ []
unfolding held_bytes each
none_held s e = ap (λ (n : ℕ). each (λ id. header id t_begin) (take n s.pending)) e

-- ---- how a call ends

-- an outcome in the state, and the buffer then
settled-emitted : (s : OStream) (b o : List ℕ) (place : ℕ) (next : OStream) (out : Result Reach Error) (b' : List ℕ) → Ended s.offset b o place out b' → result_of (settled s (length b) next out) b' ≡ emitted s b o place next
unfolding reaches buffer_after emitted result_of
settled-emitted s b o place next out b' (e, f) =
    ap (λ (x : Result Reach Error). result_of (settled s (length b) next x) b') e
    ∙ ap (result_of (settled s (length b) next (reaches s.offset (length b) (length o) place))) f
    ∙ go (ltb (length o) place) (leb (length o - place) (length b - s.offset))
  where
    go : (beyond fits : Bool)
        → result_of (settled s (length b) next (pick beyond (Err (refusal 11)) (pick fits (Ok (Through (s.offset + (length o - place)))) (Ok (Full (place + (length b - s.offset))))))) (pick beyond b (put b s.offset (drop place o)))
        ≡ emitted_by beyond fits s b o place next
    go true fits = refl
    go false true = refl
    go false false = refl

-- a call that writes nothing
unwritten-emitted : (s : OStream) (b : List ℕ) (place : ℕ) (next : OStream) → s.offset ≤ length b → next.offset ≡ s.offset → result_of (unwritten s place next) b ≡ emitted s b [] place next
unfolding emitted result_of
unwritten-emitted s b place next h e = go (ltb 0 place) refl
  where
    go : (beyond : Bool) → ltb 0 place ≡ beyond
        → result_of (pick beyond (refused s (refusal 11)) (record { answer = Ok Answers.Done; stream = next })) b
        ≡ emitted_by beyond (leb (0 - place) (length b - s.offset)) s b [] place next
    go true q = refl
    go false q =
        let z : place ≤ 0 = ltb-false 0 place q in
        let f : next.offset ≡ s.offset + (0 - place) = omega arith in
        let n : length (drop place []) ≡ 0 - place = length-drop {A = ℕ} place [] in
        ap (λ (n : ℕ). record { said = through; stream = at next n; buf = b }) f
        ∙ ap (λ (l : List ℕ). record { said = through; stream = at next (s.offset + (0 - place)); buf = l }) (sym (put-none b s.offset (drop place []) (omega arith)))
        ∙ sym (simp (le-leb (0 - place) (length b - s.offset) (omega arith)))

module _ (k : Call) (s : OStream) (b : List ℕ) (place : ℕ) (r : Written) where
  pub refuses : (e : Error) → check_of (judged k.tests) ≡ Err e → r ≡ refused s e → result_of r b ≡ written k s b place
  unfolding written written_by result_of
  refuses e j h = ap (λ (x : Written). result_of x b) h ∙ sym (ap (λ (v : Judgement). written_by v k s b place) (check_fails (judged k.tests) e j))

  -- an output and a state as they are spelled
  accepts : (o : List ℕ) (next : OStream) (b' : List ℕ) → o ≡ k.output → next ≡ k.done → judged k.tests ≡ accepted → result_of r b' ≡ emitted s b o place next → result_of r b' ≡ written k s b place
  unfolding written written_by
  accepts o next b' eo en j h =
      h
      ∙ ap (λ (x : List ℕ). emitted s b x place next) eo
      ∙ ap (λ (n : OStream). emitted s b k.output place n) en
      ∙ sym (ap (λ (v : Judgement). written_by v k s b place) j)

  -- the output has been put as far as there is room
  pub settles : (o : List ℕ) (next : OStream) (out : Result Reach Error) (b' : List ℕ) → o ≡ k.output → next ≡ k.done → judged k.tests ≡ accepted → Ended s.offset b o place out b'
      → r ≡ settled s (length b) next out → result_of r b' ≡ written k s b place
  settles o next out b' eo en j f h = accepts o next b' eo en j (ap (λ (x : Written). result_of x b') h ∙ settled-emitted s b o place next out b' f)

  -- there is no output
  pub alters : (next : OStream) → [] ≡ k.output → next ≡ k.done → judged k.tests ≡ accepted → s.offset ≤ length b → next.offset ≡ s.offset → r ≡ unwritten s place next
      → result_of r b ≡ written k s b place
  alters next eo en j i q h = accepts [] next b eo en j (ap (λ (x : Written). result_of x b) h ∙ unwritten-emitted s b place next i q)

-- ---- a field by the numbers of the state

pub few_clears : (s : OStream) → s.npending ≤ lazy_depth → (out : Result Reach Error) → Clears s out
few_clears s h (Ok (Through end)) = h
few_clears s h (Ok (Full out)) = tt
few_clears s h (Err e) = tt

module _ (s : OStream) (b : List ℕ) (id : ℕ) (more : List Test) (bytes : List ℕ) (place : ℕ) (out : Result Reach Error) (b' : List ℕ) (w : went_by out b' ≡ field_from s.offset s.depth s.npending s.pending b id more bytes place) where
  -- where it is all out, the state was sound
  pub field_clears : Clears s out
  unfolding sound_stream went_by goes_by
  field_clears = go (judged (unsound s (length b) ∷ id_too_large id ∷ more)) refl w
    where
      go : (v : Judgement) → judged (unsound s (length b) ∷ id_too_large id ∷ more) ≡ v → went_by out b' ≡ goes_by v s.offset b (headers_of s.npending s.pending ++ bytes) place → Clears s out
      go accepted j w = few_clears s (is_sound s (length b) (check_sound (sound_stream s (length b)) (id_too_large id ∷ more) j)).few out
      go (refused_with e) j w = subst (Clears s) (sym (ap (λ (g : Went). g.outcome) w)) tt

  -- what it came to is what the call says and leaves
  pub goes : (k : Call) (r : Written) → judged (unsound s (length b) ∷ id_too_large id ∷ more) ≡ judged k.tests → held_bytes s ++ bytes ≡ k.output → committed s s.depth ≡ k.done → r ≡ settled s (length b) (committed s s.depth) out
      → result_of r b' ≡ written k s b place
  unfolding sound_stream held_bytes went_by goes_by written written_by result_of
  goes k r j o d h =
      ap (λ (x : Written). result_of x b') h
      ∙ go (judged (unsound s (length b) ∷ id_too_large id ∷ more)) w
      ∙ ap (λ (v : Judgement). written_by v k s b place) j
    where
      go : (v : Judgement) → went_by out b' ≡ goes_by v s.offset b (headers_of s.npending s.pending ++ bytes) place → result_of (settled s (length b) (committed s s.depth) out) b' ≡ written_by v k s b place
      go accepted w =
          settled-emitted s b (held_bytes s ++ bytes) place (committed s s.depth) out b' (ap (λ (g : Went). g.outcome) w, ap (λ (g : Went). g.buf) w)
          ∙ ap (λ (l : List ℕ). emitted s b l place (committed s s.depth)) o ∙ ap (λ (next : OStream). emitted s b k.output place next) d
      go (refused_with e) w =
          ap (λ (x : Result Reach Error). result_of (settled s (length b) (committed s s.depth) x) b') (ap (λ (g : Went). g.outcome) w)
          ∙ ap (result_of (refused s e)) (ap (λ (g : Went). g.buf) w)

-- two calls that come to the same
pub recalled : (k k' : Call) (s : OStream) (b : List ℕ) (place : ℕ) → judged k.tests ≡ judged k'.tests → k.output ≡ k'.output → k.done ≡ k'.done → written k s b place ≡ written k' s b place
unfolding written written_by
recalled k k' s b place j o d = ap (λ (v : Judgement). written_by v k s b place) j ∙ go (judged k'.tests)
  where
    go : (v : Judgement) → written_by v k s b place ≡ written_by v k' s b place
    go accepted = ap (λ (l : List ℕ). emitted s b l place k.done) o ∙ ap (λ (n : OStream). emitted s b k'.output place n) d
    go (refused_with e) = refl
