-- The writer's run theorem: whatever writes, drains, buffer changes and refused calls come, no byte is lost or made up, so that what was
-- sent, once no write is left, is the whole output of the accepted writes, and the refused ones have their numbers.
use Prim.Native.Nat.{ℕ, ◌+◌, ◌-◌, ◌≤◌, ◌<◌, min}
use native.Mathlib.Nat.{le_refl}
use native.Mathlib.Omega.{arith}
use mathlib.Core.Path.{◌≡◌, refl, sym, ap, ◌∙◌, subst}
use mathlib.Core.Bool.{Bool, true, false}
use mathlib.Core.List.{List, [], ◌∷◌, ◌++◌, append_assoc, append-nil}
use lib.Dec.{ltb, leb}
use borrow.Author.Tests.{leb-true, leb-false}
use lib.ListN.{length, take, drop, length-take, length-drop, take-append-drop, drop_of_length-le}
use lib.Seq.{take_all, take-take, take-append-le, length-take-le, drop-append-le, drop-drop}
use Rattle.layout.specs.Message.{All}
use Rattle.types.specs.declared.Error.{Error}
use Rattle.types.specs.Types.{number_of}
use Rattle.putting.specs.Put.{put}
use Rattle.putting.proofs.Writes.{put_is, take-over, length-put}
use Rattle.ostream.specs.declared.OStream.{OStream}
use Rattle.std.specs.Prelude.{Ok}
use Rattle.ostream.specs.declared.Counted.{Counted}
use Rattle.ostream.specs.Stream.{at}
use Rattle.ostream.specs.Emission.{Judgement, accepted, refused_with, judged, Call, Outcome, through, full, number, untouched, emitted_by, emitted, written_by, written}
use Rattle.ostream.specs.Calls.{unsound}
use Rattle.ostream.specs.Buffer.{bad_buffer, counted_by, draining, changing}
use Rattle.ostream.proofs.Calls.{is_sound}
use Rattle.ostream.proofs.Buffers.{sound-at, drained_is, fit, change_refused, change_taken}
use Rattle.ostream.proofs.Answers.{written-refused, written_through, written_full}
use Rattle.writes.specs.Series.{Able, Op, call_of, judgement, output_by, done_by, numbers_by, Steady, outputs, refusals, finally, Desk, numbers_in, numbers_of, Other, writes, drains, changes}
use Rattle.writes.specs.Series.{Act, write, drain, change, aside, other, wrote, beside, sending, writing, returned, act, acts, Refusal, Allowed, Lawful}

-- ---- what is kept

-- All that the series comes to: what was sent, what stands in the buffer, and what is still to be put out; its refused writes; and its last
-- state, at a position.
unfoldable pub whole : Desk → List ℕ
whole d = d.sent ++ (drop (length d.reserved) (take d.stream.offset d.buf) ++ drop d.place (outputs d.stream d.ops))

unfoldable pub whole_refused : Desk → List ℕ
whole_refused d = d.refused ++ refusals d.stream d.ops

unfoldable pub last_state : Desk → ℕ → OStream
last_state d p = at (finally d.stream d.ops) p

abbrev pub Placed : ℕ → OStream → List Op → Type 0
Placed place s [] = place ≡ 0
Placed place s (op ∷ ops) = place ≤ length (output_by (judgement op s) op s)

pub record Fine (d : Desk) : Type 0 where
  pub sound : Able d.stream (length d.buf)
  pub reserved : length d.reserved ≤ d.stream.offset
  pub as_came : take (length d.reserved) d.buf ≡ d.reserved
  pub steady : All Steady d.ops
  pub placed : Placed d.place d.stream d.ops

pub record Kept (d d' : Desk) : Type 0 where
  pub fine : Fine d'
  pub same : whole d' ≡ whole d
  pub told : whole_refused d' ≡ whole_refused d
  pub left : (p : ℕ) → last_state d' p ≡ last_state d p

-- ---- a write does not look at the position

module _ (op : Op) (h : Steady op) (s : OStream) (p : ℕ) where
  judgement-at : judgement op (at s p) ≡ judgement op s
  judgement-at = h.tests s p p (le_refl p)

  output-at : output_by (judgement op (at s p)) op (at s p) ≡ output_by (judgement op s) op s
  output-at = ap (λ (v : Judgement). output_by v op (at s p)) judgement-at ∙ go (judgement op s)
    where
      go : (v : Judgement) → output_by v op (at s p) ≡ output_by v op s
      go accepted = h.outputs s p
      go (refused_with e) = refl

  done_at : (q : ℕ) → at (done_by (judgement op (at s p)) op (at s p)) q ≡ at (done_by (judgement op s) op s) q
  done_at q = ap (λ (v : Judgement). at (done_by v op (at s p)) q) judgement-at ∙ go (judgement op s)
    where
      go : (v : Judgement) → at (done_by v op (at s p)) q ≡ at (done_by v op s) q
      go accepted = h.leaves s p q
      go (refused_with e) = refl

pub outputs-at : (s : OStream) (p : ℕ) (ops : List Op) → All Steady ops → outputs (at s p) ops ≡ outputs s ops
unfolding outputs
outputs-at s p [] h = refl
outputs-at s p (op ∷ ops) h =
    let x : OStream = done_by (judgement op (at s p)) op (at s p) in
    let y : OStream = done_by (judgement op s) op s in
    ap (λ (l : List ℕ). l ++ outputs x ops) (output-at op h.0 s p)
    ∙ ap (λ (l : List ℕ). output_by (judgement op s) op s ++ l)
    (sym (outputs-at x 0 ops h.1) ∙ ap (λ (s : OStream). outputs s ops) (done_at op h.0 s p 0) ∙ outputs-at y 0 ops h.1)

pub refusals-at : (s : OStream) (p : ℕ) (ops : List Op) → All Steady ops → refusals (at s p) ops ≡ refusals s ops
unfolding refusals
refusals-at s p [] h = refl
refusals-at s p (op ∷ ops) h =
    let x : OStream = done_by (judgement op (at s p)) op (at s p) in
    let y : OStream = done_by (judgement op s) op s in
    ap (λ (v : Judgement). numbers_by v ++ refusals x ops) (judgement-at op h.0 s p)
    ∙ ap (λ (l : List ℕ). numbers_by (judgement op s) ++ l)
    (sym (refusals-at x 0 ops h.1) ∙ ap (λ (s : OStream). refusals s ops) (done_at op h.0 s p 0) ∙ refusals-at y 0 ops h.1)

pub finally-at : (s : OStream) (p : ℕ) (ops : List Op) (q : ℕ) → All Steady ops → at (finally (at s p) ops) q ≡ at (finally s ops) q
unfolding finally
finally-at s p [] q h = refl
finally-at s p (op ∷ ops) q h =
    let x : OStream = done_by (judgement op (at s p)) op (at s p) in
    let y : OStream = done_by (judgement op s) op s in
    sym (finally-at x 0 ops q h.1) ∙ ap (λ (s : OStream). at (finally s ops) q) (done_at op h.0 s p 0) ∙ finally-at y 0 ops q h.1

-- ---- a write

-- what stands below the position after a write of as much as there is room for
below : (b : List ℕ) (p : ℕ) (xs : List ℕ) → p ≤ length b → take (p + length (take (length b - p) xs)) (put b p xs) ≡ take p b ++ take (length b - p) xs
below b p xs h = ap (take (p + length (take (length b - p) xs))) (put_is b p xs) ∙ take-over b p (take (length b - p) xs) h

-- what stood below it stays
below_stays : (b : List ℕ) (p : ℕ) (xs : List ℕ) (r : ℕ) → p ≤ length b → r ≤ p → take r (put b p xs) ≡ take r b
below_stays b p xs r h l =
    sym (take-take r (p + length (take (length b - p) xs)) (put b p xs) (omega arith))
    ∙ ap (take r) (below b p xs h)
    ∙ take-append-le r (take p b) (take (length b - p) xs) (omega (arith, length-take-le p b h))
    ∙ take-take r p b l

-- a place in the next write
pub at-start : (s : OStream) (ops : List Op) → Placed 0 s ops
at-start s [] = refl
at-start s (op ∷ ops) = omega arith

-- a sound state at another position
able_at : (s : OStream) (size p q : ℕ) → Able s size → p ≤ q → Able (at s p) q
able_at s size p q h l = (sound-at s size p q h.0 l, h.1)

module _ (d : Desk) (op : Op) (rest : List Op) (f : Fine d) (e : d.ops ≡ op ∷ rest) where
  abbrev s : OStream
  s = d.stream

  abbrev b : List ℕ
  b = d.buf

  abbrev o : List ℕ
  o = op.output s

  abbrev k : Call
  k = call_of op s (length b)

  abbrev r : ℕ
  r = length d.reserved

  steady : All Steady (op ∷ rest)
  steady = subst (All Steady) e f.steady

  inside : s.offset ≤ length b
  inside = (is_sound s (length b) f.sound.0).inside

  -- its tests say the same over this buffer
  here : judged k.tests ≡ judgement op s
  here = steady.0.tests s s.offset (length b) inside

  placed : d.place ≤ length (output_by (judgement op s) op s)
  placed = subst (λ (ops : List Op). Placed d.place s ops) e f.placed

  pub placed_in : judgement op s ≡ accepted → d.place ≤ length o
  placed_in a = subst (λ (v : Judgement). d.place ≤ length (output_by v op s)) a placed

  -- the bytes in the buffer, with those that a write adds
  grown : (xs : List ℕ) → drop r (take s.offset b ++ xs) ≡ drop r (take s.offset b) ++ xs
  grown xs = drop-append-le r (take s.offset b) xs (omega (arith, length-take s.offset b, inside, f.reserved))

  -- what comes first, by what the tests say
  pub outputs_first : (v : Judgement) → judgement op s ≡ v → outputs s d.ops ≡ output_by v op s ++ outputs (done_by v op s) rest
  unfolding outputs
  outputs_first v a = ap (outputs s) e ∙ ap (λ (v : Judgement). output_by v op s ++ outputs (done_by v op s) rest) a

  refusals_first : (v : Judgement) → judgement op s ≡ v → refusals s d.ops ≡ numbers_by v ++ refusals (done_by v op s) rest
  unfolding refusals
  refusals_first v a = ap (refusals s) e ∙ ap (λ (v : Judgement). numbers_by v ++ refusals (done_by v op s) rest) a

  finally_first : (v : Judgement) → judgement op s ≡ v → (q : ℕ) → at (finally s d.ops) q ≡ at (finally (done_by v op s) rest) q
  unfolding finally
  finally_first v a q = ap (λ (ops : List Op). at (finally s ops) q) e ∙ ap (λ (v : Judgement). at (finally (done_by v op s) rest) q) a

  whole_is : (v : Judgement) → judgement op s ≡ v → whole d ≡ d.sent ++ (drop r (take s.offset b) ++ drop d.place (output_by v op s ++ outputs (done_by v op s) rest))
  unfolding whole
  whole_is v a = ap (λ (l : List ℕ). d.sent ++ (drop r (take s.offset b) ++ drop d.place l)) (outputs_first v a)

  -- all of it goes
  all_goes : judgement op s ≡ accepted → length o - d.place ≤ length b - s.offset
      → written k s b d.place ≡ record { said = through; stream = at (op.done s) (s.offset + (length o - d.place)); buf = put b s.offset (drop d.place o) }
  all_goes a g = written_through k s b d.place (here ∙ a) (placed_in a) g

  -- as much as there is room for
  part_goes : judgement op s ≡ accepted → length b - s.offset < length o - d.place
      → written k s b d.place ≡ record { said = full (d.place + (length b - s.offset)); stream = at s (length b); buf = put b s.offset (drop d.place o) }
  part_goes a g = written_full k s b d.place (here ∙ a) (placed_in a) g

  -- nothing goes
  none_goes : (x : Error) → judgement op s ≡ refused_with x → written k s b d.place ≡ untouched (number_of x) s b
  none_goes x a = written-refused k s b d.place x (here ∙ a)

  pub kept_all : judgement op s ≡ accepted → length o - d.place ≤ length b - s.offset
      → Kept d (wrote d rest through (at (op.done s) (s.offset + (length o - d.place))) (put b s.offset (drop d.place o)))
  unfolding whole whole_refused last_state
  kept_all a g =
      let X : List ℕ = drop d.place o in
      let n : length X ≡ length o - d.place = length-drop d.place o in
      let c : take (length b - s.offset) X ≡ X = take_all (length b - s.offset) X (omega (arith, n)) in
      let w : take (s.offset + (length o - d.place)) (put b s.offset X) ≡ take s.offset b ++ X =
      ap (λ (m : ℕ). take (s.offset + m) (put b s.offset X)) (sym n)
      ∙ ap (λ (l : List ℕ). take (s.offset + length l) (put b s.offset X)) (sym c)
      ∙ below b s.offset X inside ∙ ap (λ (l : List ℕ). take s.offset b ++ l) c in
      let l : length (put b s.offset X) ≡ length b = length-put b s.offset X inside in
      let R : List ℕ = outputs (op.done s) rest in
      let z : OStream = at (op.done s) (s.offset + (length o - d.place)) in
      record {
        fine =
            record {
              sound = steady.0.sound s (length b) (s.offset + (length o - d.place)) (length (put b s.offset X)) f.sound a (omega (arith, l, inside));
              reserved = omega (arith, f.reserved);
              as_came = below_stays b s.offset X r inside f.reserved ∙ f.as_came;
              steady = steady.1;
              placed = at-start z rest;
            };
        same =
            ap (λ (l : List ℕ). d.sent ++ (drop r l ++ outputs z rest)) w
            ∙ ap (λ (l : List ℕ). d.sent ++ (l ++ outputs z rest)) (grown X)
            ∙ ap (λ (l : List ℕ). d.sent ++ ((drop r (take s.offset b) ++ X) ++ l)) (outputs-at (op.done s) (s.offset + (length o - d.place)) rest steady.1)
            ∙ ap (λ (l : List ℕ). d.sent ++ l) (append_assoc (drop r (take s.offset b)) X R)
            ∙ ap (λ (l : List ℕ). d.sent ++ (drop r (take s.offset b) ++ l)) (sym (drop-append-le d.place o R (placed_in a)))
            ∙ sym (whole_is accepted a);
        told =
            ap (λ (l : List ℕ). l ++ refusals z rest) (append-nil d.refused)
            ∙ ap (λ (l : List ℕ). d.refused ++ l) (refusals-at (op.done s) (s.offset + (length o - d.place)) rest steady.1 ∙ sym (refusals_first accepted a));
        left = λ q. finally-at (op.done s) (s.offset + (length o - d.place)) rest q steady.1 ∙ sym (finally_first accepted a q);
      }

  pub kept_part : judgement op s ≡ accepted → length b - s.offset < length o - d.place
      → Kept d (wrote d rest (full (d.place + (length b - s.offset))) (at s (length b)) (put b s.offset (drop d.place o)))
  unfolding whole whole_refused last_state
  kept_part a g =
      let X : List ℕ = drop d.place o in
      let room : ℕ = length b - s.offset in
      let n : length X ≡ length o - d.place = length-drop d.place o in
      let m : length (take room X) ≡ room = length-take room X ∙ least room (length X) (omega (arith, n)) in
      let z : s.offset + length (take room X) ≡ length b = omega (arith, m, inside) in
      let w : take (length b) (put b s.offset X) ≡ take s.offset b ++ take room X = ap (λ (p : ℕ). take p (put b s.offset X)) (sym z) ∙ below b s.offset X inside in
      let l : length (put b s.offset X) ≡ length b = length-put b s.offset X inside in
      let R : List ℕ = outputs (op.done s) rest in
      let q : drop (d.place + room) (outputs (at s (length b)) d.ops) ≡ drop room X ++ R =
      ap (drop (d.place + room)) (outputs-at s (length b) d.ops f.steady ∙ outputs_first accepted a)
      ∙ sym (drop-drop room d.place (o ++ R)) ∙ ap (drop room) (drop-append-le d.place o R (placed_in a)) ∙ drop-append-le room X R (omega (arith, n)) in
      record {
        fine =
            record {
              sound = able_at s (length b) (length b) (length (put b s.offset X)) f.sound (omega (arith, l));
              reserved = omega (arith, f.reserved, inside);
              as_came = below_stays b s.offset X r inside f.reserved ∙ f.as_came;
              steady = f.steady;
              placed =
                  subst (λ (ops : List Op). Placed (d.place + room) (at s (length b)) ops) (sym e)
                  (subst (λ (l : List ℕ). d.place + room ≤ length l) (sym (output-at op steady.0 s (length b) ∙ ap (λ (v : Judgement). output_by v op s) a)) (omega (arith, placed_in a)));
            };
        same =
            ap (λ (l : List ℕ). d.sent ++ (drop r l ++ drop (d.place + room) (outputs (at s (length b)) d.ops))) w
            ∙ ap (λ (l : List ℕ). d.sent ++ (l ++ drop (d.place + room) (outputs (at s (length b)) d.ops))) (grown (take room X))
            ∙ ap (λ (l : List ℕ). d.sent ++ ((drop r (take s.offset b) ++ take room X) ++ l)) q
            ∙ ap (λ (l : List ℕ). d.sent ++ l) (append_assoc (drop r (take s.offset b)) (take room X) (drop room X ++ R))
            ∙ ap (λ (l : List ℕ). d.sent ++ (drop r (take s.offset b) ++ l)) (sym (append_assoc (take room X) (drop room X) R) ∙ ap (λ (l : List ℕ). l ++ R) (take-append-drop room X))
            ∙ ap (λ (l : List ℕ). d.sent ++ (drop r (take s.offset b) ++ l)) (sym (drop-append-le d.place o R (placed_in a)))
            ∙ sym (whole_is accepted a);
        told = ap (λ (l : List ℕ). l ++ refusals (at s (length b)) d.ops) (append-nil d.refused) ∙ ap (λ (l : List ℕ). d.refused ++ l) (refusals-at s (length b) d.ops f.steady);
        left = λ q. finally-at s (length b) d.ops q f.steady;
      }
    where
      least : (x y : ℕ) → x ≤ y → min x y ≡ x
      least x y h = omega arith

  -- a refused one is passed over: it has written nothing, and its number is kept
  pub kept_none : (x : Error) → judgement op s ≡ refused_with x → Kept d (wrote d rest (number (number_of x)) s b)
  unfolding whole whole_refused last_state
  kept_none x a =
      let z : d.place ≤ 0 = subst (λ (v : Judgement). d.place ≤ length (output_by v op s)) a placed in
      let y : 0 ≡ d.place = omega arith in
      record {
        fine = record { sound = f.sound; reserved = f.reserved; as_came = f.as_came; steady = steady.1; placed = at-start s rest };
        same = ap (λ (n : ℕ). d.sent ++ (drop r (take s.offset b) ++ drop n (outputs s rest))) y ∙ sym (whole_is (refused_with x) a);
        told = append_assoc d.refused (number_of x ∷ []) (refusals s rest) ∙ ap (λ (l : List ℕ). d.refused ++ l) (sym (refusals_first (refused_with x) a));
        left = λ q. sym (finally_first (refused_with x) a q);
      }

-- a write, by its answer
pub by_write : (P : Desk → Type 0) (d : Desk) (op : Op) (rest : List Op) (f : Fine d) (e : d.ops ≡ op ∷ rest)
    → (judgement op d.stream ≡ accepted → length (op.output d.stream) - d.place ≤ length d.buf - d.stream.offset
    → P (wrote d rest through (at (op.done d.stream) (d.stream.offset + (length (op.output d.stream) - d.place))) (put d.buf d.stream.offset (drop d.place (op.output d.stream)))))
    → (judgement op d.stream ≡ accepted → length d.buf - d.stream.offset < length (op.output d.stream) - d.place
    → P (wrote d rest (full (d.place + (length d.buf - d.stream.offset))) (at d.stream (length d.buf)) (put d.buf d.stream.offset (drop d.place (op.output d.stream)))))
    → ((x : Error) → judgement op d.stream ≡ refused_with x → P (wrote d rest (number (number_of x)) d.stream d.buf))
    → P (writing d (op ∷ rest))
unfolding writing
by_write P d op rest f e done part none =
    go (judgement op d.stream) refl (leb (length (op.output d.stream) - d.place) (length d.buf - d.stream.offset)) refl
  where
    next : Outcome → Desk
    next r = wrote d rest r.said r.stream r.buf

    go : (v : Judgement) → judgement op d.stream ≡ v → (t : Bool) → leb (length (op.output d.stream) - d.place) (length d.buf - d.stream.offset) ≡ t
        → P (next (written (call_of op d.stream (length d.buf)) d.stream d.buf d.place))
    go accepted a true t = subst (λ (r : Outcome). P (next r)) (sym (all_goes d op rest f e a (leb-true _ _ t))) (done a (leb-true _ _ t))
    go accepted a false t = subst (λ (r : Outcome). P (next r)) (sym (part_goes d op rest f e a (leb-false _ _ t))) (part a (leb-false _ _ t))
    go (refused_with x) a t u = subst (λ (r : Outcome). P (next r)) (sym (none_goes d op rest f e x a)) (none x a)

kept_writing : (d : Desk) (ops : List Op) (f : Fine d) → d.ops ≡ ops → Kept d (writing d ops)
unfolding writing
kept_writing d [] f e = record { fine = f; same = refl; told = refl; left = λ q. refl }
kept_writing d (op ∷ rest) f e = by_write (Kept d) d op rest f e (kept_all d op rest f e) (kept_part d op rest f e) (kept_none d op rest f e)

-- ---- a drain, and another buffer

-- the place stays
same_place : (place : ℕ) (s : OStream) (p : ℕ) (ops : List Op) → All Steady ops → Placed place s ops → Placed place (at s p) ops
same_place place s p [] h q = q
same_place place s p (op ∷ ops) h q = subst (λ (l : List ℕ). place ≤ length l) (sym (output-at op h.0 s p)) q

kept_sending : (d : Desk) (b : List ℕ) (o : ℕ) → Fine d → o ≤ length b → Kept d (sending d (Ok d.stream.offset) (at d.stream o) b (take o b))
unfolding whole whole_refused last_state
kept_sending d b o f h =
    let n : length (take o b) ≡ o = length-take-le o b h in
    let z : drop (length (take o b)) (take o b) ≡ [] = drop_of_length-le (take o b) (le_refl (length (take o b))) in
    let y : List ℕ = drop (length d.reserved) (take d.stream.offset d.buf) in
    record {
      fine =
          record {
            sound = able_at d.stream (length d.buf) o (length b) f.sound h;
            reserved = omega (arith, n);
            as_came = ap (λ (m : ℕ). take m b) n;
            steady = f.steady;
            placed = same_place d.place d.stream o d.ops f.steady f.placed;
          };
      same =
          ap (λ (l : List ℕ). (d.sent ++ y) ++ (l ++ drop d.place (outputs (at d.stream o) d.ops))) z
          ∙ ap (λ (l : List ℕ). (d.sent ++ y) ++ drop d.place l) (outputs-at d.stream o d.ops f.steady)
          ∙ append_assoc d.sent _ _;
      told = ap (λ (l : List ℕ). d.refused ++ l) (refusals-at d.stream o d.ops f.steady);
      left = λ q. finally-at d.stream o d.ops q f.steady;
    }

-- a call beside the series leaves all but its number
kept_beside : (d : Desk) (numbers : List ℕ) → Fine d → Kept d (beside d d.stream d.buf numbers)
unfolding whole whole_refused last_state
kept_beside d numbers f = record { fine = record { sound = f.sound; reserved = f.reserved; as_came = f.as_came; steady = f.steady; placed = f.placed }; same = refl; told = refl; left = λ q. refl }

-- a change, by its answer
pub by_change : (P : Desk → Type 0) (d : Desk) (b : List ℕ) (o : ℕ) (drained : Bool) → Fine d
    → (o ≤ length b → P (sending d (Ok d.stream.offset) (at d.stream o) b (take o b)))
    → P (beside d d.stream d.buf (5 ∷ []))
    → P (act (change b o drained) d)
unfolding act
by_change P d b o drained f goes stays = go (bad_buffer (length b) o drained).fails refl
  where
    go : (t : Bool) → (bad_buffer (length b) o drained).fails ≡ t
        → P (sending d (changing d.stream (length d.buf) (length b) o drained).answer (changing d.stream (length d.buf) (length b) o drained).stream b (take o b))
    go true t = subst (λ (r : Counted). P (sending d r.answer r.stream b (take o b))) (sym (change_refused d.stream (length d.buf) (length b) o drained t)) stays
    go false t = subst (λ (r : Counted). P (sending d r.answer r.stream b (take o b))) (sym (change_taken d.stream (length d.buf) (length b) o drained t f.sound.0)) (goes (fit (length b) o drained t))

pub drained_desk : (d : Desk) → Fine d → act drain d ≡ sending d (Ok d.stream.offset) (at d.stream 0) d.buf []
unfolding act
drained_desk d f = ap (λ (r : Counted). sending d r.answer r.stream d.buf []) (drained_is d.stream (length d.buf) f.sound.0)

-- ---- a refused call: "state and buffer unaltered"

no_number : (n : ℕ) → [] ≡ n ∷ [] → ⊥
no_number n e = let z : ◌≡◌ {A = ℕ} 0 1 = cc in omega arith

emitted_unaltered : (s : OStream) (b o : List ℕ) (place : ℕ) (z : OStream) → Refusal (numbers_in (emitted s b o place z).said) → ((emitted s b o place z).stream ≡ s) × ((emitted s b o place z).buf ≡ b)
unfolding emitted
emitted_unaltered s b o place z = go (ltb (length o) place) (leb (length o - place) (length b - s.offset))
  where
    go : (beyond fits : Bool) → let r = emitted_by beyond fits s b o place z in Refusal (numbers_in r.said) → (r.stream ≡ s) × (r.buf ≡ b)
    go true y n = (refl, refl)
    go false true n = absurd (no_number n.0 n.1)
    go false false n = absurd (no_number n.0 n.1)

pub unaltered : (c : Call) (s : OStream) (b : List ℕ) (place : ℕ) → Refusal (numbers_in (written c s b place).said) → ((written c s b place).stream ≡ s) × ((written c s b place).buf ≡ b)
unfolding written written_by
unaltered c s b place = go (judged c.tests)
  where
    go : (v : Judgement) → Refusal (numbers_in (written_by v c s b place).said) → ((written_by v c s b place).stream ≡ s) × ((written_by v c s b place).buf ≡ b)
    go accepted n = emitted_unaltered s b c.output place c.done n
    go (refused_with e) n = (refl, refl)

counted_unaltered : (v : Judgement) (s : OStream) (p : ℕ) → Refusal (numbers_of (counted_by v s p).answer) → (counted_by v s p).stream ≡ s
counted_unaltered accepted s p n = absurd (no_number n.0 n.1)
counted_unaltered (refused_with e) s p n = refl

pub returned_unaltered : (x : Other) (s : OStream) → Refusal (returned x s).numbers → (returned x s).stream ≡ s
unfolding draining changing
returned_unaltered (writes op b place) s n = (unaltered (call_of op s (length b)) s b place n).0
returned_unaltered (drains b) s n = counted_unaltered (judged (unsound s (length b) ∷ [])) s 0 n
returned_unaltered (changes old new o drained) s n = counted_unaltered (judged (bad_buffer (length new) o drained ∷ unsound s (length old) ∷ [])) s o n

-- a call beside the series, by what it returns
pub by_aside : (P : Desk → Type 0) (d : Desk) (op : Op) (place : ℕ) → Allowed (aside op place) d → ((numbers : List ℕ) → P (beside d d.stream d.buf numbers)) → P (act (aside op place) d)
unfolding act Allowed
by_aside P d op place h p =
    let c : Call = call_of op d.stream (length d.buf) in
    let u = unaltered c d.stream d.buf place h in
    let r : Outcome = written c d.stream d.buf place in
    let ns : List ℕ = numbers_in r.said in
    subst (λ (s : OStream). P (beside d s r.buf ns)) (sym u.0) (subst (λ (b : List ℕ). P (beside d d.stream b ns)) (sym u.1) (p ns))

pub by_other : (P : Desk → Type 0) (d : Desk) (x : Other) → Allowed (other x) d → ((numbers : List ℕ) → P (beside d d.stream d.buf numbers)) → P (act (other x) d)
unfolding act Allowed
by_other P d x h p = subst (λ (s : OStream). P (beside d s d.buf (returned x d.stream).numbers)) (sym (returned_unaltered x d.stream h)) (p (returned x d.stream).numbers)

-- ---- the run

-- Each act keeps what the series comes to.
pub keeps : (a : Act) (d : Desk) → Fine d → Allowed a d → Kept d (act a d)
unfolding act
keeps write d f h = kept_writing d d.ops f refl
keeps drain d f h = subst (Kept d) (sym (drained_desk d f)) (kept_sending d d.buf 0 f (omega arith))
keeps (change b o drained) d f h = by_change (Kept d) d b o drained f (kept_sending d b o f) (kept_beside d (5 ∷ []) f)
keeps (aside op place) d f h = by_aside (Kept d) d op place h (λ numbers. kept_beside d numbers f)
keeps (other x) d f h = by_other (Kept d) d x h (λ numbers. kept_beside d numbers f)

pub kept : (as' : List Act) (d : Desk) → Fine d → Lawful as' d → Kept d (acts as' d)
unfolding acts Lawful
kept [] d f h = record { fine = f; same = refl; told = refl; left = λ q. refl }
kept (a ∷ as') d f h =
    let k = keeps a d f h.0 in
    let r = kept as' (act a d) k.fine h.1 in
    record { fine = r.fine; same = r.same ∙ k.same; told = r.told ∙ k.told; left = λ q. r.left q ∙ k.left q }

-- THE RUN THEOREM. Once no write is left, a last drain has sent all: the accepted writes' whole output, each byte once and in order; and
-- the refused ones were told by their numbers.
pub all_sent : (as' : List Act) (d : Desk) → Fine d → Lawful as' d → (acts as' d).ops ≡ [] → (act drain (acts as' d)).sent ≡ whole d
unfolding whole outputs
all_sent as' d f h e =
    let r = kept as' d f h in
    let x = acts as' d in
    let z : x.place ≡ 0 = subst (λ (ops : List Op). Placed x.place x.stream ops) e r.fine.placed in
    let y : List ℕ = drop (length x.reserved) (take x.stream.offset x.buf) in
    ap (λ (q : Desk). q.sent) (drained_desk x r.fine)
    ∙ ap (λ (l : List ℕ). x.sent ++ l) (sym (append-nil y))
    ∙ ap (λ (ops : List Op). x.sent ++ (y ++ outputs x.stream ops)) (sym e)
    ∙ ap (λ (n : ℕ). x.sent ++ (y ++ drop n (outputs x.stream x.ops))) (sym z)
    ∙ r.same

pub all_told : (as' : List Act) (d : Desk) → Fine d → Lawful as' d → (acts as' d).ops ≡ [] → (acts as' d).refused ≡ whole_refused d
unfolding whole_refused refusals
all_told as' d f h e =
    let r = kept as' d f h in
    let x = acts as' d in
    sym (append-nil x.refused) ∙ ap (λ (ops : List Op). x.refused ++ refusals x.stream ops) (sym e) ∙ r.told

-- And the state is the one that the accepted writes leave, but for its position.
pub all_state : (as' : List Act) (d : Desk) → Fine d → Lawful as' d → (acts as' d).ops ≡ [] → (p : ℕ) → at (acts as' d).stream p ≡ last_state d p
unfolding last_state finally
all_state as' d f h e p = let x = acts as' d in ap (λ (ops : List Op). at (finally x.stream ops) p) (sym e) ∙ (kept as' d f h).left p
