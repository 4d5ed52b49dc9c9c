-- Whole fields and elements in their shortest form, as this crate's functions find them: what `copying_laws` says of them, over the
-- reader's own states.
use Prim.Native.Nat.{ℕ, zero, suc, ◌+◌, ◌-◌, ◌*◌, ◌/◌, ◌^◌, ◌<◌, ◌≤◌}
use native.Mathlib.Omega.{arith}
use mathlib.Core.Path.{◌≡◌, refl, sym, ap, ◌∙◌, subst}
use mathlib.Core.Bool.{true}
use mathlib.Core.List.{List}
use lib.ListN.{length, take, drop, get_or, take-append-drop}
use lib.Seq.{length-take-le}
use lib.Dec.{lit<, lit≤}
use Rattle.layout.specs.Limits.{base}
use Rattle.layout.specs.Varint.{shortest}
use Rattle.layout.specs.Field.{each, bytes_of}
use Rattle.layout.specs.Message.{All, Bytes}
use Rattle.laws.proofs.Laws.{fit_base}
use Rattle.machine.specs.Machine.{Phase, idle, first_or, in_unsigned, in_signed, in_float}
use Rattle.machine.specs.Calls.{State, reading}
use Rattle.types.specs.Types.{width, float_type}
use Rattle.types.specs.declared.FloatType.{FloatType}
use Rattle.types.specs.declared.FloatType.TheVariants as Floats
use Rattle.varint.specs.declared.Acc.{Acc}
use Rattle.varint.proofs.Laws.{sound-start}
use Rattle.phase.specs.declared.Carried.{Carried}
use Rattle.phase.specs.declared.Phase as code
use Rattle.phase.specs.declared.Phase.TheVariants as phases
use Rattle.phase.specs.Phases.{depth_of}
use Rattle.phase.specs.Sound.{SoundAt, SoundState}
use Rattle.phase.proofs.Phases.{Live, float_back}
use Rattle.istream.specs.declared.IStream.{IStream}
use Rattle.istream.specs.Stream.{state_of, stream_in, sound_stream}
use Rattle.istream.proofs.Calls.{state_of_stream}
use Rattle.istream.proofs.Laws.{is_sound, sound_is}
use Rattle.copying_laws.proofs.OneEvent.{AsIs}
use Rattle.copying_laws.proofs.AsIs.{fields_as_is, unsigneds_as_is, signeds_as_is, floats_as_is}
use Rattle.shortest.specs.Own as own
use Rattle.shortest.specs.Own.{Numbers}
use Rattle.shortest.proofs.Spans.{all_bytes, bytes_front}
use Rattle.as_is.specs.declared.Block.{Block}
use Rattle.as_is.specs.Ahead.{Ahead}

-- the machine's states as the reader's
ahead : (st st' : State) (c : List ℕ) (n : ℕ) → n ≤ length c → AsIs base st (depth_of st) (take n c) st' (depth_of st') → SoundState base st' → Live st' → Ahead (stream_in st) c n (stream_in st')
ahead st st' c n few q ss l =
    record {
      few = few;
      same =
          subst (λ (x : State). AsIs base x (depth_of st) (take n c) (state_of (stream_in st')) (depth_of st')) (sym (state_of_stream st))
          (subst (λ (x : State). AsIs base st (depth_of st) (take n c) x (depth_of st')) (sym (state_of_stream st')) q);
      sound = sound_is base st' ss;
      live = subst Live (sym (state_of_stream st')) l;
    }

-- whole fields
pub fields_ahead : (d e n : ℕ) (c : List ℕ) → e ≤ base.depth → n ≤ length c → own.OwnFields base d (take n c) e → Ahead (stream_in (reading d idle)) c n (stream_in (reading e idle))
fields_ahead d e n c h few a =
    ahead (reading d idle) (reading e idle) c n few
    (subst (λ (bs : List ℕ). AsIs base (reading d idle) d bs (reading e idle) e) (sym a.bytes) (λ pos r b f. fields_as_is base fit_base a.fields d e pos r b a.legal a.balanced f))
    (h, sound-start base) tt

-- ---- elements, of which P m is the phase with m left

first_is : (P : ℕ → Phase) (left : ℕ) → 0 < left → first_or left P ≡ P left
first_is P zero h = absurd (omega arith)
first_is P (suc left) h = refl

sound_first : (P : ℕ → Phase) (left m : ℕ) → m ≤ left → ((j : ℕ) → j ≤ left → SoundAt base (P j)) → SoundAt base (first_or m P)
sound_first P left zero h f = sound-start base
sound_first P left (suc m) h f = f (suc m) h

-- the first k of them are the first n bytes
elements_ahead : (P : ℕ → Phase) (d left n k : ℕ) (c : List ℕ) → d ≤ base.depth → ((j : ℕ) → j ≤ left → SoundAt base (P j)) → 0 < left → k ≤ left → n ≤ length c
    → AsIs base (reading d (first_or (k + (left - k)) P)) d (take n c) (reading d (first_or (left - k) P)) d
    → Ahead (stream_in (reading d (P left))) c n (stream_in (reading d (first_or (left - k) P)))
elements_ahead P d left n k c h f z few g q =
    let e : k + (left - k) ≡ left = omega arith in
    ahead (reading d (P left)) (reading d (first_or (left - k) P)) c n g
    (subst (λ (x : Phase). AsIs base (reading d x) d (take n c) (reading d (first_or (left - k) P)) d) (ap (λ (x : ℕ). first_or x P) e ∙ first_is P left z) q)
    (h, sound_first P left (left - k) (omega arith) f) tt

-- so many numbers in their shortest form, where such numbers go as they came
integers_ahead : (P : ℕ → Phase) (d left n k : ℕ) (c : List ℕ) → d ≤ base.depth → ((j : ℕ) → j ≤ left → SoundAt base (P j)) → 0 < left → k ≤ left → n ≤ length c
    → ((ns : List ℕ) (more : ℕ) → All (λ x. x < 2 ^ base.bits) ns → AsIs base (reading d (first_or (length ns + more) P)) d (each shortest ns) (reading d (first_or more P)) d)
    → Numbers base k (take n c) → Ahead (stream_in (reading d (P left))) c n (stream_in (reading d (first_or (left - k) P)))
integers_ahead P d left n k c h f z few g law a =
    elements_ahead P d left n k c h f z few g
    (subst (λ (bs : List ℕ). AsIs base (reading d (first_or (k + (left - k)) P)) d bs (reading d (first_or (left - k) P)) d) (sym a.bytes)
    (subst (λ (x : ℕ). AsIs base (reading d (first_or (x + (left - k)) P)) d (each shortest a.list) (reading d (first_or (left - k) P)) d) a.count (law a.list (left - k) a.fit)))

module _ (d id left n k : ℕ) (c : List ℕ) (h : d ≤ base.depth) (i : id ≤ base.id) (m : left ≤ base.count) (z : 0 < left) (few : k ≤ left) (g : n ≤ length c) where
  pub unsigneds_ahead : Numbers base k (take n c) → Ahead (stream_in (reading d (in_unsigned id left 0 0))) c n (stream_in (reading d (first_or (left - k) (λ j. in_unsigned id j 0 0))))
  unsigneds_ahead =
      integers_ahead (λ j. in_unsigned id j 0 0) d left n k c h (λ j l. (i, (omega arith, sound-start base))) z few g (λ ns more a pos r b f. unsigneds_as_is base ns more d id pos r b a f)

  pub signeds_ahead : Numbers base k (take n c) → Ahead (stream_in (reading d (in_signed id left 0 0))) c n (stream_in (reading d (first_or (left - k) (λ j. in_signed id j 0 0))))
  signeds_ahead =
      integers_ahead (λ j. in_signed id j 0 0) d left n k c h (λ j l. (i, (omega arith, sound-start base))) z few g (λ ns more a pos r b f. signeds_as_is base ns more d id pos r b a f)

  -- any bytes are floats
  pub floats_ahead : (w : FloatType) → ((j : ℕ) → get_or c j 0 < 256) → n ≡ k * bytes_of (width w) → 0 < bytes_of (width w)
      → Ahead (stream_in (reading d (in_float id (width w) left 0 0))) c n (stream_in (reading d (first_or (left - k) (λ j. in_float id (width w) j 0 0))))
  floats_ahead w bs e u =
      elements_ahead (λ j. in_float id (width w) j 0 0) d left n k c h (λ j l. (i, (omega arith, (u, lit< tt)))) z few g
      (λ pos r b f. floats_as_is base (width w) k (left - k) d id pos (take n c) r b (bytes_front (take n c) (drop n c) (subst Bytes (sym (take-append-drop n c)) (all_bytes c bs))) (length-take-le n c g ∙ e) f)

-- ---- the reader's own phases

-- a varint of which no byte is taken
fresh-acc : (a : Acc) → a.taken ≡ 0 → a.value < 128 ^ a.taken → a ≡ record { value = 0; taken = 0 }
fresh-acc a e l = λ i. record { value = v i; taken = e i }
  where
    v : a.value ≡ 0
    v = let q : 128 ^ a.taken ≡ 1 = ap (λ (k : ℕ). 128 ^ k) e in omega arith

-- a sound reader at a field's first byte
pub at-header : (s : IStream) (a : Acc) → sound_stream base s ≡ true → s.phase ≡ phases.Header a → a.taken ≡ 0 → s ≡ stream_in (reading s.carried.depth idle)
at-header s a t e z =
    let f = subst (λ (p : code.Phase). SoundState base (state_of (record { phase = p; carried = s.carried }))) e (is_sound base s t) in
    λ i. record { phase = (e ∙ ap phases.Header (fresh-acc a z f.1.small)) i; carried = s.carried }

-- at an element's, with its numbers in force
pub at_unsigned_lem : (s : IStream) (id left : ℕ) (a : Acc) → sound_stream base s ≡ true → s.phase ≡ phases.Unsigned id left a → a.taken ≡ 0
    → (id ≤ base.id) × (left ≤ base.count) × (s ≡ stream_in (reading s.carried.depth (in_unsigned id left 0 0)))
at_unsigned_lem s id left a t e z =
    let f = subst (λ (p : code.Phase). SoundState base (state_of (record { phase = p; carried = s.carried }))) e (is_sound base s t) in
    (f.1.0, f.1.1.0, λ i. record { phase = (e ∙ ap (phases.Unsigned id left) (fresh-acc a z f.1.1.1.small)) i; carried = s.carried })

pub at-signed : (s : IStream) (id left : ℕ) (a : Acc) → sound_stream base s ≡ true → s.phase ≡ phases.Signed id left a → a.taken ≡ 0
    → (id ≤ base.id) × (left ≤ base.count) × (s ≡ stream_in (reading s.carried.depth (in_signed id left 0 0)))
at-signed s id left a t e z =
    let f = subst (λ (p : code.Phase). SoundState base (state_of (record { phase = p; carried = s.carried }))) e (is_sound base s t) in
    (f.1.0, f.1.1.0, λ i. record { phase = (e ∙ ap (phases.Signed id left) (fresh-acc a z f.1.1.1.small)) i; carried = s.carried })

pub at_float_lem : (s : IStream) (id : ℕ) (w : FloatType) (left k v : ℕ) → sound_stream base s ≡ true → s.phase ≡ phases.Float id w left k v → k ≡ 0
    → (id ≤ base.id) × (left ≤ base.count) × (s ≡ stream_in (reading s.carried.depth (in_float id (width w) left 0 0)))
at_float_lem s id w left k v t e z =
    let f = subst (λ (p : code.Phase). SoundState base (state_of (record { phase = p; carried = s.carried }))) e (is_sound base s t) in
    let q : 256 ^ k ≡ 1 = ap (λ (j : ℕ). 256 ^ j) z in
    let u : v ≡ 0 = let l : v < 256 ^ k = f.1.1.1.1 in omega arith in (
      f.1.0,
      f.1.1.0,
      λ i. record { phase = (e ∙ ap (λ (x : FloatType). phases.Float id x left k v) (sym (float_back w)) ∙ ap (λ (j : ℕ). phases.Float id (float_type (width w)) left j v) z ∙ ap (phases.Float id (float_type (width w)) left 0) u) i; carried = s.carried },
    )

-- a block of the bytes that go, with the reader that the code makes of a phase and what is carried along
pub behind : {s : IStream} {c : List ℕ} {n : ℕ} {k : Carried} {p q : code.Phase} → p ≡ q → Ahead s c n (record { phase = q; carried = k }) →
    (b : Block) → (0 < b.len) × (b.len ≡ n) × (b.reader ≡ record { phase = p; carried = k }) → (0 < b.len) × Ahead s c b.len b.reader
behind {s} {c} {n} {k} e a b w =
    (w.0, subst (λ (m : ℕ). Ahead s c m b.reader) (sym w.1) (subst (λ (r : IStream). Ahead s c n r) (sym (w.2 ∙ ap (λ (x : code.Phase). record { phase = x; carried = k }) e)) a))

-- .. from a reader by its equation
pub ahead_from : {s s₀ : IStream} {c : List ℕ} → s ≡ s₀ → (b : Block) → (0 < b.len) × Ahead s₀ c b.len b.reader → (0 < b.len) × Ahead s c b.len b.reader
ahead_from {c = c} e b a = (a.0, subst (λ (x : IStream). Ahead x c b.len b.reader) (sym e) a.1)

-- a float's bytes
pub float_width : (w : FloatType) → (0 < bytes_of (width w)) × (bytes_of (width w) ≤ 8)
float_width Floats.Fp32 = (lit< tt, lit≤ tt)
float_width Floats.Fp64 = (lit< tt, lit≤ tt)

-- as many as stand whole in so many bytes
pub whole_floats : (w : FloatType) (len b r : ℕ) → b ≡ bytes_of (width w) → r ≤ len / b → r * bytes_of (width w) ≤ len
whole_floats Floats.Fp32 len b r e h = let l : r ≤ len / 4 = subst (λ (x : ℕ). r ≤ len / x) e h in omega arith
whole_floats Floats.Fp64 len b r e h = let l : r ≤ len / 8 = subst (λ (x : ℕ). r ≤ len / x) e h in omega arith
