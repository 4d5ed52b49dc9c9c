-- What a caller may know: which states are sound, that a call keeps a state sound, and that the states are the machine's.
use mathlib.Core.Path.{◌≡◌, refl, sym, ap, ◌∙◌, subst}
use mathlib.Core.Bool.{Bool, true, false}
use mathlib.Core.List.{List, [], ◌∷◌}
use Prim.Native.Nat.{ℕ, suc, ◌+◌, ◌-◌, ◌<◌, ◌≤◌, min}
use native.Mathlib.Omega.{arith}
use lib.ListN.{length, get_or}
use lib.Dec.{ltb}
use borrow.Author.Tests.{le-leb, lt-ltb, leb-true, ltb-true}
use Rattle.std.specs.Prelude.{Ok, Some}
use Rattle.layout.specs.Limits.{Limits, pick}
use Rattle.layout.specs.Field.{Raw, bytes_of}
use Rattle.machine.specs.Machine as machine
use Rattle.machine.specs.Machine.{in_header, in_unsigned, in_signed, in_word, in_unsigned_count, in_signed_count, in_float_count, in_array_word, in_float, in_payload, idle, on, bad}
use Rattle.machine.specs.Calls.{State, reading, owing, broke, fresh, Called, call, scan, scanned, verdict_so}
use Rattle.types.specs.declared.RawType.{RawType}
use Rattle.types.specs.Types.{raw_sort}
use Rattle.varint.proofs.Laws as varint
use Rattle.event.specs.declared.Event as Given
use Rattle.phase.specs.declared.Carried.{Carried}
use Rattle.phase.specs.declared.Phase.{Phase}
use Rattle.phase.specs.declared.Phase.TheVariants.{Header, Unsigned, Signed, Word, UnsignedCount, SignedCount, FloatCount, ArrayWord, Float, Payload, Empty, Broken}
use Rattle.istream.specs.declared.IStream.{IStream}
use Rattle.call_end.specs.declared.Answer.TheVariants as Answers
use Rattle.call_end.specs.declared.Status.{Status}
use Rattle.phase.specs.Phases.{state_at, sound_phase}
use Rattle.read_at_once.specs.declared.Once.TheVariants.{Done, Spent}
use Rattle.read_at_once.specs.AtOnce.{StopsAt, spent_at, RightFrom}
use Rattle.call_end.specs.declared.CallEnd.{CallEnd}
use Rattle.call_end.specs.CallEnd.{end_in, refused}
use Rattle.read_slowly.specs.Slowly.{end_from, end_of}
use Rattle.istream.specs.Stream.{state_of, stream_in, sound_stream, status_in, answer_in, fed_in, if_sound, still, fed_from, fed_of}
use Rattle.istream.specs.Private.{fed_at, fed_by}
use Rattle.phase.specs.Sound.{SoundState, AtBytes, Kept}
use Rattle.phase.proofs.Phases.{width_back, Live, both, join, phase_is, varint_is}
use Rattle.phase.proofs.Keeps.{step_keeps}
use Rattle.phase.proofs.Scans.{scan_end, scan_byte}
use Rattle.istream.proofs.Tests.{sound_in}
use Rattle.istream.proofs.Calls.{stream_back}

-- ---- the test of a state, and what it says

pub is_sound : (L : Limits) (s : IStream) → sound_stream L s ≡ true → SoundState L (state_of s)
unfolding sound_stream
is_sound L s e = let (d, p) = both _ _ e in phase_is L s.carried.depth s.phase (leb-true _ _ d) p

pub sound_is : (L : Limits) (st : State) → SoundState L st → sound_stream L (stream_in st) ≡ true
unfolding sound_stream
sound_is L (reading d (in_header k v)) (l, s) = join (le-leb _ _ l) (varint_is L k v s)
sound_is L (reading d (in_unsigned id left k v)) (l, (i, (c, s))) = join (le-leb _ _ l) (join (le-leb _ _ i) (join (le-leb _ _ c) (varint_is L k v s)))
sound_is L (reading d (in_signed id left k v)) (l, (i, (c, s))) = join (le-leb _ _ l) (join (le-leb _ _ i) (join (le-leb _ _ c) (varint_is L k v s)))
sound_is L (reading d (in_word id k v)) (l, (i, s)) = join (le-leb _ _ l) (join (le-leb _ _ i) (varint_is L k v s))
sound_is L (reading d (in_unsigned_count id k v)) (l, (i, s)) = join (le-leb _ _ l) (join (le-leb _ _ i) (varint_is L k v s))
sound_is L (reading d (in_signed_count id k v)) (l, (i, s)) = join (le-leb _ _ l) (join (le-leb _ _ i) (varint_is L k v s))
sound_is L (reading d (in_float_count id k v)) (l, (i, s)) = join (le-leb _ _ l) (join (le-leb _ _ i) (varint_is L k v s))
sound_is L (reading d (in_array_word id count k v)) (l, (i, (c, s))) = join (le-leb _ _ l) (join (le-leb _ _ i) (join (le-leb _ _ c) (varint_is L k v s)))
sound_is L (reading d (in_float id w left k v)) (l, (i, (c, (m, s)))) =
    join (le-leb _ _ l) (join (le-leb _ _ i) (join (le-leb _ _ c) (join (ap (λ (x : Rattle.layout.specs.Field.Width). ltb k (bytes_of x)) (width_back w) ∙ lt-ltb _ _ m) (lt-ltb _ _ s))))
sound_is L (reading d (in_payload id r total o)) (l, (i, (c, s))) = join (le-leb _ _ l) (join (le-leb _ _ i) (join (le-leb _ _ c) (lt-ltb _ _ s)))
sound_is L (owing d id r) (l, i) = join (le-leb _ _ l) (le-leb _ _ i)
sound_is L broke u = join (le-leb 0 L.depth (omega arith)) refl

-- a fresh reader is sound
pub fresh-sound : (L : Limits) → sound_stream L (stream_in fresh) ≡ true
fresh-sound L = sound_is L fresh (omega arith, varint.sound-start L)

-- ---- the ways of a call

pub fed-sound : (L : Limits) (s : IStream) (st : State) (c : List ℕ) → state_of s ≡ st → Live st → sound_stream L s ≡ true → fed_in (call L st c) ≡ fed_of L s c
unfolding fed_of
fed-sound L s (reading d p) c e l t = ap (λ (x : State). fed_in (call L x c)) (sym e) ∙ sym (ap (λ (x : State). fed_from L x s c) e ∙ simp t)
fed-sound L s (owing d id r) c e l t = ap (λ (x : State). fed_in (call L x c)) (sym e) ∙ sym (ap (λ (x : State). fed_from L x s c) e ∙ simp t)
fed-sound L s broke c e l t = absurd l

pub fed_broken : (L : Limits) (s : IStream) (c : List ℕ) → s.phase ≡ Broken → still s ≡ fed_of L s c
unfolding fed_of
fed_broken L s c e = sym (ap (λ (p : Phase). fed_from L (state_at s.carried.depth p) s c) e)

-- what a call comes to in a crate below, as a call's end
fed_by_lem : (c : Called) → fed_by (end_in c) ≡ fed_in c
unfolding end_in fed_in
fed_by_lem c = refl

-- the slow form, from any state
pub fed_slowly : (L : Limits) (s : IStream) (c : List ℕ) → s.carried.depth ≤ L.depth → fed_by (end_of L s.phase s.carried c) ≡ fed_of L s c
unfolding end_of fed_of
fed_slowly L s c h = go (state_of s) refl
  where
    picked : (b : Bool) (st : State) → state_of s ≡ st → sound_phase L s.phase ≡ b → fed_by (pick (sound_phase L s.phase) (end_in (call L st c)) (refused 1 s.phase s.carried)) ≡ if_sound L s c
    picked true st e t =
        simp (t, sym (sound_in L s s.phase h refl) ∙ t) (fed_by_lem (call L st c) ∙ ap (λ (x : State). fed_in (call L x c)) (sym e))
    picked false st e t = simp (t, sym (sound_in L s s.phase h refl) ∙ t)

    go : (st : State) → state_of s ≡ st → fed_by (end_from L (state_of s) s.phase s.carried c) ≡ fed_from L (state_of s) s c
    go (reading d p) e =
        ap (λ (x : State). fed_by (end_from L x s.phase s.carried c)) e ∙ picked (sound_phase L s.phase) (reading d p) e refl ∙ sym (ap (λ (x : State). fed_from L x s c) e)
    go (owing d id r) e =
        ap (λ (x : State). fed_by (end_from L x s.phase s.carried c)) e ∙ picked (sound_phase L s.phase) (owing d id r) e refl ∙ sym (ap (λ (x : State). fed_from L x s c) e)
    go broke e = ap (λ (x : State). fed_by (end_from L x s.phase s.carried c)) e ∙ sym (ap (λ (x : State). fed_from L x s c) e)

-- a payload under way
pub payload_owed : (L : Limits) (id : ℕ) (r : RawType) (total o : ℕ) → sound_phase L (Payload id r total o) ≡ true → o < total
payload_owed L id r total o t = (phase_is L 0 (Payload id r total o) (omega arith) t).1.1.1

pub from_payload : (L : Limits) (s : IStream) (c : List ℕ) (id : ℕ) (r : RawType) (total o : ℕ) (w : CallEnd) → s.carried.depth ≤ L.depth → s.phase ≡ Payload id r total o → sound_phase L (Payload id r total o) ≡ true
    → w ≡ end_in (call L (reading s.carried.depth (in_payload id (raw_sort r) total o)) c) → fed_by w ≡ fed_of L s c
from_payload L s c id r total o w b e t h = ap fed_by h ∙ fed_by_lem _ ∙ fed-sound L s _ c (ap (state_at s.carried.depth) e) tt (sym (sound_in L s (Payload id r total o) b e) ∙ t)

-- a broken reader stops at no event
broken_live : (L : Limits) (st : State) (c : List ℕ) {p : Phase} {k : Carried} {e : Given.Event} {n : ℕ} → StopsAt p k e n (call L st c) → Live st
unfolding call
broken_live L (reading d p) c x = tt
broken_live L (owing d id r) c x = tt
broken_live L broke c x = let f = x.answered in let z : ◌≡◌ {A = ℕ} 0 1 = cc in absurd (omega arith)

-- what is read at once
pub from_once : (L : Limits) (s : IStream) (c : List ℕ) (p : Phase) (k : Carried) (e : Given.Event) (n : ℕ) → s.carried.depth ≤ L.depth → RightFrom L s.carried.depth s.phase (Some (Done p k e n)) c
    → fed_at n (Ok (Answers.Event e)) p k ≡ fed_of L s c
unfolding fed_in
from_once L s c p k e n b (t, x) =
    (λ i. record { read = x.read i; answer = answers i; stream = record { phase = x.phase i; carried = x.carried i } })
    ∙ fed-sound L s (state_of s) c refl (broken_live L (state_of s) c x) (sym (sound_in L s s.phase b refl) ∙ t)
  where
    answers : Ok (Answers.Event e) ≡ answer_in (call L (state_of s) c).read (call L (state_of s) c).answer
    answers = ap (λ (y : Given.Event). Ok (Answers.Event y)) x.raised ∙ sym (ap (answer_in (call L (state_of s) c).read) x.answered)

-- nor gives it a verdict
spent_live : (L : Limits) (st : State) (c : List ℕ) → call L st c ≡ spent_at st → Live st
unfolding call
spent_live L (reading d p) c x = tt
spent_live L (owing d id r) c x = tt
spent_live L broke c x = let f = ap (λ (y : Called). y.answer) x in let z : ◌≡◌ {A = ℕ} 0 1 = cc in absurd (omega arith)

-- a chunk that is spent
pub from_spent : (L : Limits) (s : IStream) (c : List ℕ) (v : Status) (p : Phase) → s.carried.depth ≤ L.depth → v ≡ status_in (verdict_so (state_of s)) → p ≡ s.phase → RightFrom L s.carried.depth s.phase (Some Spent) c
    → fed_at 0 (Ok (Answers.Status v)) p s.carried ≡ fed_of L s c
unfolding fed_in
from_spent L s c v p b e f (t, x) =
    let l = spent_live L (state_of s) c x in
    let back = sym (stream_back s.carried.depth s.phase l) in
    ap (λ (q : Phase). fed_at 0 (Ok (Answers.Status v)) q s.carried) f
    ∙ (λ i. record { read = 0; answer = Ok (Answers.Status (e i)); stream = back i })
    ∙ ap fed_in (sym x)
    ∙ fed-sound L s (state_of s) c refl l (sym (sound_in L s s.phase b refl) ∙ t)

-- ---- a call keeps a state sound

-- "bytes": each element is below 256
abbrev pub Bytes : List ℕ → Type 0
Bytes bs = (i : ℕ) → get_or bs i 0 < 256

scanned_keeps : (L : Limits) (n : ℕ) (m : machine.Stepped) (f : ℕ → machine.Phase → Called) → Kept L m → ((d : ℕ) (p : machine.Phase) → AtBytes L (reading d p) → SoundState L (f d p).state) → SoundState L (scanned n m f).state
unfolding scanned
scanned_keeps L n (on [] d p) f k g = g d p k
scanned_keeps L n (on (e ∷ es) d p) f k g = k.1
scanned_keeps L n bad f k g = tt

at_bytes_sound : (L : Limits) (d : ℕ) (p : machine.Phase) → AtBytes L (reading d p) → SoundState L (reading d p)
at_bytes_sound L d p (l, (s, e)) = (l, s)

bytes_keep : (L : Limits) (n d : ℕ) (p : machine.Phase) (bs : List ℕ) → Bytes bs → AtBytes L (reading d p) → SoundState L (scan L n d p bs).state
bytes_keep L n d p [] h a = end_keeps n d p (at_bytes_sound L d p a)
  where
    end_keeps : (n d : ℕ) (p : machine.Phase) → SoundState L (reading d p) → SoundState L (scan L n d p []).state
    end_keeps n d p s = subst (λ (c : Called). SoundState L c.state) (sym (scan_end L n d p)) s
bytes_keep L n d p (b ∷ bs) h a =
    subst (λ (c : Called). SoundState L c.state) (sym (scan_byte L n d p b bs a.1.1))
    (scanned_keeps L (suc n) (machine.step L d p b) (λ d' p'. scan L (suc n) d' p' bs) (step_keeps L d p b a (h 0)) (λ d' p' k. bytes_keep L (suc n) d' p' bs (λ i. h (suc i)) k))

piece_keeps : (L : Limits) (d id : ℕ) (r : Raw) (total o : ℕ) (c : List ℕ) → SoundState L (reading d (in_payload id r total o)) → SoundState L (call L (reading d (in_payload id r total o)) c).state
unfolding call scan
piece_keeps L d id r total o [] s = s
piece_keeps L d id r total o (b ∷ bs) (l, (i, (t, n))) = go (ltb (o + min (total - o) (length (b ∷ bs))) total) refl
  where
    go : (x : Bool) → ltb (o + min (total - o) (length (b ∷ bs))) total ≡ x → SoundState L (reading d (pick x (in_payload id r total (o + min (total - o) (length (b ∷ bs)))) idle))
    go true q = (l, (i, (t, ltb-true _ _ q)))
    go false q = (l, varint.sound-start L)

call_keeps : (L : Limits) (d : ℕ) (p : Phase) (c : List ℕ) → Bytes c → SoundState L (state_at d p) → SoundState L (call L (state_at d p) c).state
unfolding call
call_keeps L d (Header a) c h (l, s) = bytes_keep L 0 d _ c h (l, (s, refl))
call_keeps L d (Unsigned id left a) c h (l, s) = bytes_keep L 0 d _ c h (l, (s, refl))
call_keeps L d (Signed id left a) c h (l, s) = bytes_keep L 0 d _ c h (l, (s, refl))
call_keeps L d (Word id a) c h (l, s) = bytes_keep L 0 d _ c h (l, (s, refl))
call_keeps L d (UnsignedCount id a) c h (l, s) = bytes_keep L 0 d _ c h (l, (s, refl))
call_keeps L d (SignedCount id a) c h (l, s) = bytes_keep L 0 d _ c h (l, (s, refl))
call_keeps L d (FloatCount id a) c h (l, s) = bytes_keep L 0 d _ c h (l, (s, refl))
call_keeps L d (ArrayWord id count a) c h (l, s) = bytes_keep L 0 d _ c h (l, (s, refl))
call_keeps L d (Float id w left k v) c h (l, s) = bytes_keep L 0 d _ c h (l, (s, refl))
call_keeps L d (Payload id r total o) c h s = piece_keeps L d id (raw_sort r) total o c s
call_keeps L d (Empty id r) c h (l, i) = (l, varint.sound-start L)
call_keeps L d Broken c h s = tt

-- a call on a sound state hands back a sound one
pub feed_keeps : (L : Limits) (s : IStream) (c : List ℕ) → Bytes c → sound_stream L s ≡ true → sound_stream L (fed_of L s c).stream ≡ true
unfolding fed_of fed_in
feed_keeps L s c h t = go (state_of s) refl
  where
    fed : sound_stream L (stream_in (call L (state_of s) c).state) ≡ true
    fed = sound_is L (call L (state_of s) c).state (call_keeps L s.carried.depth s.phase c h (is_sound L s t))

    go : (st : State) → state_of s ≡ st → sound_stream L (fed_from L (state_of s) s c).stream ≡ true
    go (reading d p) e = ap (λ (x : State). sound_stream L (fed_from L x s c).stream) e ∙ simp t fed
    go (owing d id r) e = ap (λ (x : State). sound_stream L (fed_from L x s c).stream) e ∙ simp t fed
    go broke e = ap (λ (x : State). sound_stream L (fed_from L x s c).stream) e ∙ t
