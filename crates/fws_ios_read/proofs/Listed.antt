-- Access lists by their names.
use Rattle.std.proofs.Common.{◌≡◌, ℕ, Bool, true, false, List, [], ◌∷◌, ◌++◌, None, Some, map, cond, refl, sym, ap, ◌∙◌, true≢false}
use Rattle.std.proofs.lemmas.Cmp.{nat_list_eq_equiv}
use Rattle.std.specs.Map.{lookup, set_value}
use Rattle.std.specs.Str.{bytes_eq}
use Rattle.indexmap.specs.IndexMap.{insert_entry}
use Rattle.fws_ios.specs.declared.config.IosEntry.{IosEntry}
use Rattle.fws_ios.specs.declared.config.IosList.{IosList}
use Rattle.fws_ios.specs.FileText.{with_entry, with_last}
use Rattle.fws_ios_read.specs.Keys.{list_of}

-- a name and its entries
abbrev pub Named : Type 0
Named = List ℕ × List IosEntry

-- a list that is there
more_here : (b c : Bool) → b ≡ c → (name : List ℕ) (entry : IosEntry) (e : Named) (es : List Named) (was : List IosEntry) →
    cond b (Some e.1) (lookup (bytes_eq name) es) ≡ Some was →
    (lookup (bytes_eq name) es ≡ Some was → map list_of (set_value (bytes_eq name) es (was ++ entry ∷ [])) ≡ with_entry name entry (map list_of es)) →
    map list_of (cond b ((e.0, was ++ entry ∷ []) ∷ es) (e ∷ set_value (bytes_eq name) es (was ++ entry ∷ [])))
    ≡ cond c (with_last entry (list_of e) ∷ map list_of es) (list_of e ∷ with_entry name entry (map list_of es))
more_here true true q name entry e es was h k =
    let same : e.1 ≡ was = cc in ap (λ (old : List IosEntry). record { name = e.0; entries = old ++ entry ∷ [] } ∷ map list_of es) (sym same)
more_here false false q name entry e es was h k = ap (λ ls. list_of e ∷ ls) (k h)
more_here true false q name entry e es was h k = absurd (true≢false q)
more_here false true q name entry e es was h k = absurd (true≢false (sym q))

more : (name : List ℕ) (entry : IosEntry) (es : List Named) (was : List IosEntry) → lookup (bytes_eq name) es ≡ Some was →
    map list_of (set_value (bytes_eq name) es (was ++ entry ∷ [])) ≡ with_entry name entry (map list_of es)
more name entry [] was h = cc
more name entry (e ∷ es) was h =
    more_here (bytes_eq name e.0) (bytes_eq e.0 name) (nat_list_eq_equiv.symm name e.0) name entry e es was h (more name entry es was)

pub put_more : (name : List ℕ) (entry : IosEntry) (es new : List Named) (was now : List IosEntry) (ls : List IosList) → map list_of es ≡ ls →
    Some was ≡ lookup (bytes_eq name) es → now ≡ was ++ entry ∷ [] → new ≡ set_value (bytes_eq name) es now → map list_of new ≡ with_entry name entry ls
put_more name entry es new was now ls view found grown writes =
    ap (map list_of) writes ∙ ap (λ es'. map list_of (set_value (bytes_eq name) es es')) grown ∙ more name entry es was (sym found) ∙ ap (with_entry name entry) view

-- a list of a new name
first_here : (b c : Bool) → b ≡ c → (name : List ℕ) (entry : IosEntry) (e : Named) (es : List Named) →
    cond b (Some e.1) (lookup (bytes_eq name) es) ≡ None →
    (lookup (bytes_eq name) es ≡ None → map list_of (insert_entry bytes_eq es name (entry ∷ [])) ≡ with_entry name entry (map list_of es)) →
    map list_of (cond b ((e.0, entry ∷ []) ∷ es) (e ∷ insert_entry bytes_eq es name (entry ∷ [])))
    ≡ cond c (with_last entry (list_of e) ∷ map list_of es) (list_of e ∷ with_entry name entry (map list_of es))
first_here true c q name entry e es h k = cc
first_here false false q name entry e es h k = ap (λ ls. list_of e ∷ ls) (k h)
first_here false true q name entry e es h k = absurd (true≢false (sym q))

first : (name : List ℕ) (entry : IosEntry) (es : List Named) → lookup (bytes_eq name) es ≡ None →
    map list_of (insert_entry bytes_eq es name (entry ∷ [])) ≡ with_entry name entry (map list_of es)
first name entry [] h = refl
first name entry (e ∷ es) h =
    first_here (bytes_eq name e.0) (bytes_eq e.0 name) (nat_list_eq_equiv.symm name e.0) name entry e es h (first name entry es)

pub put_first : (name key : List ℕ) (entry : IosEntry) (es left new : List Named) (entries : List IosEntry) (ls : List IosList) → map list_of es ≡ ls →
    None ≡ lookup (bytes_eq name) es → left ≡ es → key ≡ name → entries ≡ entry ∷ [] → new ≡ insert_entry bytes_eq left key entries →
    map list_of new ≡ with_entry name entry ls
put_first name key entry es left new entries ls view absent stays k one inserts =
    ap (map list_of) (inserts ∙ (λ i. insert_entry bytes_eq (stays i) (k i) (one i))) ∙ first name entry es (sym absent) ∙ ap (with_entry name entry) view
