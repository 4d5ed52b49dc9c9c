-- A slice taken from the front: one part after another, and how far it came.
use Prim.Native.Nat.{ℕ, zero, suc, ◌+◌, ◌-◌, ◌≤◌, ◌<◌}
use mathlib.Core.Path.{◌≡◌, refl, sym, ap, ◌∙◌, subst}
use mathlib.Core.List.{List, [], ◌∷◌, ◌++◌, append_assoc}
use native.Mathlib.Omega.{arith}
use lib.ListN.{length, take, drop, get_or, length-append, length-drop, take-append-drop}
use lib.Seq.{length-take-le, take_all}
use Rattle.layout.specs.Message.{Bytes}
use Rattle.shortest.specs.Own.{Ends}

-- ---- from the front up to the rest

module _ {P : List ℕ → Type 0} where
  pub here : (t : List ℕ) → P [] → Ends t P t
  here t p = record { bytes = []; split = refl; good = p }

  pub ends_as : {Q : List ℕ → Type 0} {t r : List ℕ} → Ends t P r → ((bs : List ℕ) → P bs → Q bs) → Ends t Q r
  ends_as e f = record { bytes = e.bytes; split = e.split; good = f e.bytes e.good }

  pub ends_then : {Q R : List ℕ → Type 0} {t r s : List ℕ} → Ends t P r → Ends r Q s → ((xs ys : List ℕ) → P xs → Q ys → R (xs ++ ys)) → Ends t R s
  ends_then e u f =
      record {
        bytes = e.bytes ++ u.bytes;
        split = e.split ∙ ap (λ (l : List ℕ). e.bytes ++ l) u.split ∙ sym (append_assoc e.bytes u.bytes _);
        good = f e.bytes u.bytes e.good u.good;
      }

  -- how many bytes they are
  pub ends_long : {t r : List ℕ} → (e : Ends t P r) → length e.bytes + length r ≡ length t
  ends_long {r = r} e = sym (ap length e.split ∙ length-append e.bytes r)

-- .. the rest being as the code takes it
pub ends_behind : {P : List ℕ → Type 0} {t : List ℕ} (n : ℕ) → Ends t P (drop n t) → Ends t P (take (length t - n) (drop n t))
ends_behind {P} {t} n e = subst (Ends t P) (sym (take_all (length t - n) (drop n t) (omega (arith, length-drop n t)))) e

-- n bytes
pub bytes_at : (t : List ℕ) (n : ℕ) → n ≤ length t → Ends t (λ bs. length bs ≡ n) (drop n t)
bytes_at t n l = record { bytes = take n t; split = sym (take-append-drop n t); good = length-take-le n t l }

-- ---- the bytes of a slice are bytes

pub all_bytes : (t : List ℕ) → ((i : ℕ) → get_or t i 0 < 256) → Bytes t
all_bytes [] h = tt
all_bytes (x ∷ xs) h = (h 0, all_bytes xs (λ i. h (suc i)))

pub bytes_drop : (n : ℕ) (bs : List ℕ) → Bytes bs → Bytes (drop n bs)
bytes_drop zero bs a = a
bytes_drop (suc n) [] a = tt
bytes_drop (suc n) (b ∷ bs) a = bytes_drop n bs a.1

pub bytes_front : (xs ys : List ℕ) → Bytes (xs ++ ys) → Bytes xs
bytes_front [] ys a = tt
bytes_front (x ∷ xs) ys a = (a.0, bytes_front xs ys a.1)

pub bytes_behind : (xs ys : List ℕ) → Bytes (xs ++ ys) → Bytes ys
bytes_behind [] ys a = a
bytes_behind (x ∷ xs) ys a = bytes_behind xs ys a.1

-- .. and those of a part, and of what is behind it
module _ {P : List ℕ → Type 0} {t r : List ℕ} (a : Bytes t) (e : Ends t P r) where
  pub ends_bytes : Ends t (λ bs. P bs × Bytes bs) r
  ends_bytes = record { bytes = e.bytes; split = e.split; good = (e.good, bytes_front e.bytes r (subst Bytes e.split a)) }

  pub rest_bytes : Bytes r
  rest_bytes = bytes_behind e.bytes r (subst Bytes e.split a)
