-- The names on a site's lines lead to the entries that they stand for.
use Rattle.std.proofs.Common.{◌≡◌, ℕ, zero, suc, ◌+◌, ◌-◌, ◌<◌, ◌≤◌, Bool, true, cond, ◌&&◌, Some, Ok, List, [], ◌∷◌, ◌++◌, map, length, slice_get, ok_or, refl, ap, sym, ◌∙◌, arith}
use Rattle.std.proofs.lemmas.Bool.{and_parts, not-true}
use Rattle.std.proofs.lemmas.Slice.Eq.{bytes_eq-Decides}
use Rattle.std.specs.List.{list_all}
use Rattle.std.specs.Option.{option_map_or}
use Rattle.std.specs.Str.{bytes_eq}
use Rattle.fws_net.specs.declared.cause.SiteCause.TheVariants.{Names as NameTaken}
use Rattle.fws_net.specs.declared.site.Iface.{Iface}
use Rattle.fws_net.specs.SiteLaws.{all_pairs, are_names, are_other_texts}
use Rattle.fws_net.specs.SiteLines.{entry_from, entry_of}
use Rattle.fws_net.specs.SiteSpelling.{name_at}
use Rattle.fws_net.specs.SiteWords.{is_name}
use Rattle.fws_net.proofs.SpelledWords.{if_true, if_false}

-- the name of the interface with this number
abbrev name_from : List Iface → ℕ → List ℕ
name_from faces k = option_map_or (λ face. face.name) (slice_get faces k) []

test_at : (p : List ℕ → Bool) (faces : List Iface) (k : ℕ) → k < length faces → list_all p (map (λ face. face.name) faces) ≡ true → p (name_from faces k) ≡ true
test_at p [] k h all = absurd (omega arith)
test_at p (face ∷ faces) zero h all = (and_parts (p face.name) (list_all p (map (λ face. face.name) faces)) all).0
test_at p (face ∷ faces) (suc k) h all = test_at p faces k (omega arith) (and_parts (p face.name) (list_all p (map (λ face. face.name) faces)) all).1

bytes_eq_same : (a : List ℕ) → bytes_eq a a ≡ true
bytes_eq_same a = (bytes_eq-Decides a a).1 refl

entry_found : (n : ℕ) (faces : List Iface) (k : ℕ) → k < length faces → all_pairs are_other_texts (map (λ face. face.name) faces) ≡ true
    → entry_from n faces (name_from faces k) ≡ Some (n + k)
entry_found n [] k h differ = absurd (omega arith)
entry_found n (face ∷ faces) zero h differ =
    let same : n ≡ n + 0 = omega arith in
    if_true (bytes_eq face.name face.name) (Some n) (entry_from (suc n) faces face.name) (bytes_eq_same face.name) ∙ ap (λ m. Some m) same
entry_found n (face ∷ faces) (suc k) h differ =
    let parts = and_parts (list_all (are_other_texts face.name) (map (λ face. face.name) faces)) (all_pairs are_other_texts (map (λ face. face.name) faces)) differ in
    let inside : k < length faces = omega arith in
    let other = not-true (bytes_eq face.name (name_from faces k)) (test_at (are_other_texts face.name) faces k inside parts.0) in
    let same : suc n + k ≡ n + suc k = omega arith in
    if_false (bytes_eq face.name (name_from faces k)) (Some n) (entry_from (suc n) faces (name_from faces k)) _ other
    (entry_found (suc n) faces k inside parts.1 ∙ ap (λ m. Some m) same)

-- the name of an entry leads to it
pub entry_read : (faces : List Iface) (entry : ℕ) → 2 ≤ entry → entry ≤ length faces + 1 → all_pairs are_other_texts (map (λ face. face.name) faces) ≡ true
    → entry_of faces (name_at faces entry) ≡ Ok entry
entry_read faces entry low high differ =
    let inside : entry - 2 < length faces = omega arith in
    let same : 2 + (entry - 2) ≡ entry = omega arith in
    ap (λ o. ok_or o NameTaken) (entry_found 2 faces (entry - 2) inside differ) ∙ ap (λ n. Ok n) same

name_of_face : (faces : List Iface) (k : ℕ) → k < length faces → list_all (λ face. is_name face.name && are_names face.names) faces ≡ true → is_name (name_from faces k) ≡ true
name_of_face [] k h all = absurd (omega arith)
name_of_face (face ∷ faces) zero h all =
    let parts = and_parts (is_name face.name && are_names face.names) (list_all (λ face. is_name face.name && are_names face.names) faces) all in
    (and_parts (is_name face.name) (are_names face.names) parts.0).0
name_of_face (face ∷ faces) (suc k) h all =
    let parts = and_parts (is_name face.name && are_names face.names) (list_all (λ face. is_name face.name && are_names face.names) faces) all in
    name_of_face faces k (omega arith) parts.1

pub name_at_spelled : (faces : List Iface) (entry : ℕ) → 2 ≤ entry → entry ≤ length faces + 1 → list_all (λ face. is_name face.name && are_names face.names) faces ≡ true
    → is_name (name_at faces entry) ≡ true
name_at_spelled faces entry low high all = (let inside : entry - 2 < length faces = omega arith in name_of_face faces (entry - 2) inside all)

-- an interface by those ahead of it

name_from-split : (front : List Iface) (face : Iface) (behind : List Iface) → name_from (front ++ face ∷ behind) (length front) ≡ face.name
name_from-split [] face behind = refl
name_from-split (other ∷ front) face behind = name_from-split front face behind

entry_by_names : (n : ℕ) (faces others : List Iface) (name : List ℕ) → map (λ face. face.name) faces ≡ map (λ face. face.name) others → entry_from n faces name ≡ entry_from n others name
entry_by_names n [] [] name e = refl
entry_by_names n [] (other ∷ others) name e = absurd cc
entry_by_names n (face ∷ faces) [] name e = absurd cc
entry_by_names n (face ∷ faces) (other ∷ others) name e =
    let first : face.name ≡ other.name = cc in
    let rest : map (λ face. face.name) faces ≡ map (λ face. face.name) others = cc in
    ap (λ text. cond (bytes_eq text name) (Some n) (entry_from (suc n) faces name)) first
    ∙ ap (λ o. cond (bytes_eq other.name name) (Some n) o) (entry_by_names (suc n) faces others name rest)

-- an interface's name leads to its entry, whatever addresses the interfaces have
pub entry_by_place : (whole front : List Iface) (face : Iface) (behind now : List Iface) → whole ≡ front ++ face ∷ behind → map (λ face. face.name) now ≡ map (λ face. face.name) whole
    → length front < length whole → all_pairs are_other_texts (map (λ face. face.name) whole) ≡ true → entry_of now face.name ≡ Ok (2 + length front)
entry_by_place whole front face behind now e names inside differ =
    let called : name_from whole (length front) ≡ face.name = ap (λ faces. name_from faces (length front)) e ∙ name_from-split front face behind in
    ap (λ o. ok_or o NameTaken) (entry_by_names 2 now whole face.name names ∙ ap (entry_from 2 whole) (sym called) ∙ entry_found 2 whole (length front) inside differ)
