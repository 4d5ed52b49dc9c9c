-- What the first tests of a call say, and what a call that passes them knows.
use mathlib.Core.Path.{◌≡◌, refl}
use mathlib.Core.List.{List, [], ◌∷◌}
use mathlib.Core.Bool.{Bool, true, false}
use Prim.Native.Nat.{ℕ, ◌≤◌}
use borrow.Author.Tests.{ltb-false, not-false}
use Rattle.std.specs.Prelude.{Ok, Err}
use Rattle.types.specs.declared.Error.{Error}
use Rattle.layout.specs.Limits.{pick}
use Rattle.refusals.specs.Judged.{Test, Judgement, accepted, refused_with, judged}
use Rattle.checks.specs.Check.{check_of}
use Rattle.refusals.specs.Tests.{unsound_writer, id_too_large, too_long}

pub passed : (t : Test) (ts : List Test) → judged (t ∷ ts) ≡ accepted → (t.fails ≡ false) × (judged ts ≡ accepted)
passed t ts e = go t.fails refl e
  where
    go : (b : Bool) → t.fails ≡ b → pick b (refused_with t.error) (judged ts) ≡ accepted → (t.fails ≡ false) × (judged ts ≡ accepted)
    go true p e = cc
    go false p e = (p, e)

pub check_passes : (v : Judgement) → check_of v ≡ Ok tt → v ≡ accepted
check_passes accepted h = refl
check_passes (refused_with x) h = cc

pub check_fails : (v : Judgement) (x : Error) → check_of v ≡ Err x → v ≡ refused_with x
check_fails accepted x h = cc
check_fails (refused_with y) x h = cc

-- the state is sound, whatever else is tested
pub check_sound : (sound : Bool) (ts : List Test) → judged (unsound_writer sound ∷ ts) ≡ accepted → sound ≡ true
check_sound sound ts e = not-false sound (passed (unsound_writer sound) ts e).0

-- and a field's payload or array is no longer than the limit of its kind
pub check_short : (sound : Bool) (id most n : ℕ) → judged (unsound_writer sound ∷ id_too_large id ∷ too_long most n ∷ []) ≡ accepted → n ≤ most
check_short sound id most n e =
    let f = (passed (unsound_writer sound) (id_too_large id ∷ too_long most n ∷ []) e).1 in
    let g = (passed (id_too_large id) (too_long most n ∷ []) f).1 in
    ltb-false most n (passed (too_long most n) [] g).0
