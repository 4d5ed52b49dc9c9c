-- Writing at once: what the tests of a field that holds nothing say of the state, and a call that is made so.
use mathlib.Core.Path.{◌≡◌, sym, ap, ◌∙◌}
use mathlib.Core.List.{List, [], ◌∷◌, ◌++◌}
use mathlib.Core.Bool.{Bool, true, ◌&&◌}
use Prim.Native.Nat.{ℕ, ◌+◌, ◌≤◌, ◌<◌}
use native.Mathlib.Omega.{arith}
use lib.Dec.{leb, eqb}
use lib.ListN.{length, take, drop}
use borrow.Author.Tests.{leb-true, ltb-true, le-leb, le-ltb}
use Rattle.std.specs.Prelude.{Option, Some}
use Rattle.layout.specs.Limits.{base}
use Rattle.places.specs.Places.{clean}
use Rattle.at_ease.specs.AtOnce.{pair_most, roomy_at, easy_at, easy_with, closes_at, holds_at, PutsWhole}
use Rattle.held.proofs.Ends.{at_once}
use Rattle.at_ease.proofs.AtOnce.{has_room, went}
use Rattle.ostream.specs.declared.OStream.{OStream}
use Rattle.ostream.specs.declared.Written.{Written}
use Rattle.ostream.specs.Stream.{every, sound_stream, lazy_depth, held_bytes}
use Rattle.ostream.specs.Private.{through_to}
use Rattle.ostream.specs.Calls.{unsound, id_too_large, array_too_long, field_tests}
use Rattle.ostream.specs.Emission.{Call, accepted, judged, result_of, written}
use Rattle.ostream.proofs.Calls.{both, none_held, settles}

-- ---- the state

-- a state that holds nothing, from which a field of two varints and n more bytes can be written at once
pub record Ready (s : OStream) (size id n : ℕ) : Type 0 where
  pub room : s.offset + pair_most + n ≤ size
  pub legal : id ≤ base.id
  pub none : s.npending ≡ 0
  pub sound : sound_stream s size ≡ true

pub quiet : (s : OStream) (size : ℕ) → s.offset ≤ size → s.npending ≡ 0 → s.depth ≤ base.depth → clean s.pending ≡ true → sound_stream s size ≡ true
unfolding sound_stream every
quiet s size h e d z =
    ap (λ (n : ℕ). leb s.offset size && (leb n lazy_depth && (leb n s.depth && (leb s.depth base.depth && (every (λ x. leb x base.id) (take n s.pending) && every (λ x. eqb x 0) (drop n s.pending)))))) e
    ∙ simp (le-leb s.offset size h, le-leb 0 s.depth (omega arith), le-leb s.depth base.depth d, z)

-- the tests that come before the places and the room
pub record Easy (s : OStream) (id : ℕ) : Type 0 where
  pub legal : id ≤ base.id
  pub none : s.npending ≡ 0
  pub shallow : s.depth ≤ base.depth

pub is_easy : (s : OStream) (id : ℕ) → easy_at s.depth s.npending id ≡ true → Easy s id
unfolding easy_at
is_easy s id e =
    let a = both _ _ e in
    let b = both _ _ a.1 in
    record { legal = leb-true _ _ a.0; none = nothing s.npending (leb-true _ _ b.0); shallow = leb-true _ _ b.1 }
  where
    nothing : (n : ℕ) → n ≤ 0 → n ≡ 0
    nothing n h = omega arith

-- with a payload or an array of n
pub easy_with_lem : (s : OStream) (id n most : ℕ) → easy_with s.depth s.npending id n most ≡ true → Easy s id × (n ≤ most)
easy_with_lem s id n most e = let a = both _ _ e in (is_easy s id a.0, leb-true _ _ a.1)

pub closes_easy : (s : OStream) → closes_at s.depth s.npending ≡ true → (0 < s.depth) × Easy s 0
unfolding closes_at
closes_easy s e = let a = both _ _ e in (ltb-true _ _ a.0, is_easy s 0 a.1)

pub is_ready : (s : OStream) (size id n : ℕ) → Easy s id → roomy_at size s.offset s.pending n ≡ true → Ready s size id n
is_ready s size id n y e =
    let a = both _ _ e in
    let r : s.offset + pair_most + n ≤ size = has_room size s.offset n a.0 in
    record { room = r; legal = y.legal; none = y.none; sound = quiet s size (omega arith) y.none y.shallow a.1 }

-- a sequence can be opened and held back
pub record Holds (s : OStream) (size id : ℕ) : Type 0 where
  pub few : s.npending < lazy_depth
  pub shallow : s.depth < base.depth
  pub legal : id ≤ base.id
  pub sound : sound_stream s size ≡ true

pub can_hold : (s : OStream) (size id : ℕ) → holds_at s.offset s.depth s.npending s.pending size id ≡ true → Holds s size id
unfolding holds_at sound_stream
can_hold s size id e =
    let a = both _ _ e in
    let b = both _ _ a.1 in
    let c = both _ _ b.1 in
    record { few = ltb-true _ _ a.0; shallow = ltb-true _ _ b.0; legal = leb-true _ _ c.0; sound = c.1 }

-- it passes the tests of a field
module _ (s : OStream) (size id n : ℕ) (y : Ready s size id n) where
  pub ready_scalar : judged (unsound s size ∷ id_too_large id ∷ []) ≡ accepted
  ready_scalar = simp (y.sound, le-ltb _ _ y.legal)

  pub ready_field : n ≤ base.size → judged (field_tests s size id n) ≡ accepted
  ready_field h = simp (y.sound, le-ltb _ _ y.legal, le-ltb _ _ h)

-- and those of an array of k elements
pub ready_array : (s : OStream) (size id k n : ℕ) → Ready s size id n → k ≤ base.count → judged (unsound s size ∷ id_too_large id ∷ array_too_long k ∷ []) ≡ accepted
ready_array s size id k n y h = simp (y.sound, le-ltb _ _ y.legal, le-ltb _ _ h)

-- an output, behind the headers of a state that holds nothing
pub spelled : (s : OStream) → s.npending ≡ 0 → (l : List ℕ) → l ≡ held_bytes s ++ l
spelled s e l = ap (λ (x : List ℕ). x ++ l) (sym (none_held s e))

-- what must hold where the tests before a write at once pass: that the call is accepted, that the output is its own, and the state it leaves
abbrev pub Serves : Bool → Call → List ℕ → OStream → Type 0
Serves t k o next = t ≡ true → (judged k.tests ≡ accepted) × (o ≡ k.output) × (next ≡ k.done)

-- a call whose output goes at once
pub goes_at_once : (k : Call) (s : OStream) (b o : List ℕ) (place : ℕ) (found : Option ℕ) (end : ℕ) (b' : List ℕ) (next : OStream) (t : Bool) (r : Written) → PutsWhole t b s.offset o b' found → found ≡ Some end → place ≡ 0 → Serves t k o next → r ≡ through_to next end → result_of r b' ≡ written k s b place
goes_at_once k s b o place found end b' next t r w h z serves e =
    let g = went t b s.offset o b' found end w h in
    let q = serves g.0 in
    settles k s b place _ o next _ b' q.1 q.2 q.0 (at_once s.offset b o place end b' z g.2 g.1) e

-- a call that is left to another of the same statement, with the state rebuilt and the buffer unaltered
pub by_slow_form : (k : OStream → ℕ → Call) (s s' : OStream) (b b0 : List ℕ) (place : ℕ) (r r' : Written) (b' : List ℕ) → s' ≡ s → b0 ≡ b → r' ≡ r
    → result_of r b' ≡ written (k s' (length b0)) s' b0 place → result_of r' b' ≡ written (k s (length b)) s b place
by_slow_form k s s' b b0 place r r' b' es eb er h =
    ap (λ (x : Written). result_of x b') er ∙ h
    ∙ ap (λ (x : OStream). written (k x (length b0)) x b0 place) es
    ∙ ap (λ (l : List ℕ). written (k s (length l)) s l place) eb
