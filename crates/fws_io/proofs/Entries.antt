-- Taking out an entry that an earlier one hides.
use Rattle.std.proofs.Common.{◌≡◌, ℕ, suc, zero, ◌+◌, ◌<◌, Bool, true, false, ◌||◌, List, [], ◌∷◌, length, get_or, refl, ap, arith, add-one}
use Rattle.std.specs.Prelude.{if◌then◌else◌}
use Rattle.std.proofs.Math.Path.{fun_ext}
use Rattle.std.specs.List.{remove, insert}
use Rattle.std.specs.Str.{bytes_eq}
use Rattle.fws_io.specs.Contents.{content_of, is_held, with_content}
use Rattle.fws_io.specs.declared.contents.Held.{Held}

-- an entry of another name is not what is asked for
content_of-remove : (blank : Held) (entries : List Held) (place : ℕ) (asked : List ℕ) → place < length entries → bytes_eq (get_or entries place blank).name asked ≡ false → content_of (remove entries place) asked ≡ content_of entries asked
content_of-remove blank [] place asked h e = absurd (omega (arith, h))
content_of-remove blank (x ∷ xs) zero asked h e = let f : bytes_eq x.name asked ≡ false = e in rw f refl
content_of-remove blank (x ∷ xs) (suc k) asked h e =
    ap (λ (s : List ℕ). if bytes_eq x.name asked then x.content else s) (content_of-remove blank xs k asked (omega (arith, h)) e)

is_held-remove : (blank : Held) (entries : List Held) (place : ℕ) (asked : List ℕ) → place < length entries → bytes_eq (get_or entries place blank).name asked ≡ false → is_held (remove entries place) asked ≡ is_held entries asked
is_held-remove blank [] place asked h e = absurd (omega (arith, h))
is_held-remove blank (x ∷ xs) zero asked h e = let f : bytes_eq x.name asked ≡ false = e in rw f refl
is_held-remove blank (x ∷ xs) (suc k) asked h e =
    ap (λ (s : Bool). bytes_eq x.name asked || s) (is_held-remove blank xs k asked (omega (arith, h)) e)

if_else : (b : Bool) (c r s : List ℕ) → (b ≡ false → r ≡ s) → (if b then c else r) ≡ (if b then c else s)
if_else true c r s e = refl
if_else false c r s e = e refl

or_else : (b r s : Bool) → (b ≡ false → r ≡ s) → (b || r) ≡ (b || s)
or_else true r s e = refl
or_else false r s e = e refl

-- a new entry stands in front, and the entry that it hides is taken out
pub replaced : (blank : Held) (entries : List Held) (entry : Held) (place : ℕ) → place < length entries → (get_or entries place blank).name ≡ entry.name → content_of (remove (insert entries 0 entry) (place + 1)) ≡ with_content (content_of entries) entry.name entry.content
replaced blank entries entry place h e =
    rw add-one (fun_ext (λ asked. if_else (bytes_eq entry.name asked) entry.content _ _ (λ f. content_of-remove blank entries place asked h (rw e f))))

pub replaced-held : (blank : Held) (entries : List Held) (entry : Held) (place : ℕ) → place < length entries → (get_or entries place blank).name ≡ entry.name → (asked : List ℕ) → is_held (remove (insert entries 0 entry) (place + 1)) asked ≡ (bytes_eq entry.name asked || is_held entries asked)
replaced-held blank entries entry place h e asked =
    rw add-one (or_else (bytes_eq entry.name asked) _ _ (λ f. is_held-remove blank entries place asked h (rw e f)))
