-- What is owed, through the copier's struct and back: the same bytes, the same depth, as sound as before.
use Prim.Native.Nat.{ℕ, zero, suc}
use mathlib.Core.Path.{◌≡◌, refl, sym, ap, ◌∙◌}
use mathlib.Core.Bool.{Bool, true, ◌&&◌}
use lib.Dec.{leb, ltb, eqb}
use borrow.Author.Tests.{eqb-true}
use lib.ListN.{length}
use Rattle.layout.specs.Limits.{base}
use Rattle.layout.specs.Field.{Width, fp32, fp64, bytes_of, float, raw, string, blob, unsigneds, signeds, floats}
use Rattle.layout.specs.Event.{Event, Unsigned, Signed, Float, Piece, Fixlen, Array, Begin, End}
use Rattle.laws.specs.Events.{event_bytes}
use Rattle.machine.specs.Calls.{State, reading, owing, broke}
use Rattle.copying.specs.Owed.{Owed, nothing, owes, rest, legal, level, agrees, sound_owed}
use Rattle.copying.proofs.Allowed.{both}
use Rattle.copier.specs.Copier.{owed_of, owe, owed_in, place_in}

three : {x y z : Bool} → x ≡ true → y ≡ true → z ≡ true → (x && (y && z)) ≡ true
three e f g = simp (e, f, g)

-- a float's announcement has its width for a length
float_length : (id : ℕ) (w : Width) (n : ℕ) → legal base (Fixlen id (float w) n) ≡ true → n ≡ bytes_of w
unfolding legal
float_length id w n e = eqb-true n (bytes_of w) (both (leb id base.id) (eqb n (bytes_of w)) e).1

-- ---- the bytes

pub rest_owed : (due : ℕ) (e : Event) (place : ℕ) → legal base e ≡ true → rest (owed_of (owe due e) place) ≡ rest (owes due e place)
unfolding rest event_bytes legal
rest_owed zero (Unsigned id n) place g = refl
rest_owed (suc due) (Unsigned id n) place g = refl
rest_owed zero (Signed id z) place g = refl
rest_owed (suc due) (Signed id z) place g = refl
rest_owed due (Float id fp32 x) place g = refl
rest_owed due (Float id fp64 x) place g = refl
rest_owed due (Piece id r total o bs) place g = absurd cc
rest_owed due (Fixlen id (float fp32) n) place g = ap (λ (m : ℕ). rest (owes due (Fixlen id (float fp32) m) place)) (sym (float_length id fp32 n g))
rest_owed due (Fixlen id (float fp64) n) place g = ap (λ (m : ℕ). rest (owes due (Fixlen id (float fp64) m) place)) (sym (float_length id fp64 n g))
rest_owed due (Fixlen id (raw string) n) place g = refl
rest_owed due (Fixlen id (raw blob) n) place g = refl
rest_owed due (Array id unsigneds n) place g = refl
rest_owed due (Array id signeds n) place g = refl
rest_owed due (Array id (floats fp32) n) place g = refl
rest_owed due (Array id (floats fp64) n) place g = refl
rest_owed due (Begin id) place g = refl
rest_owed due End place g = refl

-- ---- sound

agrees-owed : (r w due : ℕ) (e : Event) (place : ℕ) → level r w e ≡ true → legal base e ≡ true → ltb place (length (event_bytes due e)) ≡ true
    → agrees base r w (owed_of (owe due e) place) ≡ true
unfolding agrees level legal event_bytes
agrees-owed r w zero (Unsigned id n) place l g p = three l g p
agrees-owed r w (suc due) (Unsigned id n) place l g p = three l refl p
agrees-owed r w zero (Signed id z) place l g p = three l g p
agrees-owed r w (suc due) (Signed id z) place l g p = three l refl p
agrees-owed r w due (Float id fp32 x) place l g p = three l refl p
agrees-owed r w due (Float id fp64 x) place l g p = three l refl p
agrees-owed r w due (Piece id p total o bs) place l g q = absurd cc
agrees-owed r w due (Fixlen id (float fp32) n) place l g p =
    three l (three (both (leb id base.id) (eqb n (bytes_of fp32)) g).0 refl refl) (ap (λ (m : ℕ). ltb place (length (event_bytes due (Fixlen id (float fp32) m)))) (sym (float_length id fp32 n g)) ∙ p)
agrees-owed r w due (Fixlen id (float fp64) n) place l g p =
    three l (three (both (leb id base.id) (eqb n (bytes_of fp64)) g).0 refl refl) (ap (λ (m : ℕ). ltb place (length (event_bytes due (Fixlen id (float fp64) m)))) (sym (float_length id fp64 n g)) ∙ p)
agrees-owed r w due (Fixlen id (raw string) n) place l g p = three l g p
agrees-owed r w due (Fixlen id (raw blob) n) place l g p = three l g p
agrees-owed r w due (Array id unsigneds n) place l g p = three l g p
agrees-owed r w due (Array id signeds n) place l g p = three l g p
agrees-owed r w due (Array id (floats fp32) n) place l g p = three l g p
agrees-owed r w due (Array id (floats fp64) n) place l g p = three l g p
agrees-owed r w due (Begin id) place l g p = three l g p
agrees-owed r w due End place l g p = three l g p

-- what a sound one says of an owed event
agreed : (r w due : ℕ) (e : Event) (place : ℕ) → agrees base r w (owes due e place) ≡ true → (level r w e ≡ true) × (legal base e ≡ true) × (ltb place (length (event_bytes due e)) ≡ true)
unfolding agrees
agreed r w due e place h = let a = both (level r w e) (legal base e && ltb place (length (event_bytes due e))) h in let b = both (legal base e) (ltb place (length (event_bytes due e))) a.1 in (a.0, b.0, b.1)

agrees_back : (r w : ℕ) (o : Owed) → agrees base r w o ≡ true → (rest (owed_of (owed_in o) (place_in o)) ≡ rest o) × (agrees base r w (owed_of (owed_in o) (place_in o)) ≡ true)
agrees_back r w nothing h = (refl, h)
agrees_back r w (owes due e place) h = let a = agreed r w due e place h in (rest_owed due e place a.1, agrees-owed r w due e place a.0 a.1 a.2)

-- A sound state's owed event comes back from the struct with the same bytes still to go out, and sound.
pub owed_back : (st : State) (w : ℕ) (o : Owed) → sound_owed base st w o ≡ true
    → (rest (owed_of (owed_in o) (place_in o)) ≡ rest o) × (sound_owed base st w (owed_of (owed_in o) (place_in o)) ≡ true)
unfolding sound_owed
owed_back (reading d p) w o h = agrees_back d w o h
owed_back (owing d id r) w o h = agrees_back d w o h
owed_back broke w nothing h = (refl, refl)
owed_back broke w (owes due e place) h = absurd cc
