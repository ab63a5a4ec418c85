-- Instances by their numbers.
use Rattle.std.proofs.Common.{◌≡◌, ℕ, Bool, true, false, ◌||◌, List, [], ◌∷◌, ◌++◌, Option, None, Some, is_some, map, cond, nat_eq, refl, sym, ap, ◌∙◌, true≢false, arith}
use Rattle.std.proofs.lemmas.Bool.Decides.{nat_tests}
use Rattle.std.proofs.lemmas.List.{map-append}
use Rattle.std.specs.List.{list_any}
use Rattle.std.specs.Map.{lookup}
use Rattle.indexmap.specs.IndexMap.{IndexMap, insert_entry}
use Rattle.indexmap.proofs.CallerLemmas.{insert_entry-new}
use Rattle.fws_ipfw.specs.declared.draft.Defined.{Defined}
use Rattle.fws_ipfw.specs.FileText.{redirects_at, with_defined}
use Rattle.fws_ipfw.specs.RuleText.{is_defined}
use Rattle.fws_ipfw_read.specs.Keys.{defined_of}

same_way : (n m : ℕ) → nat_eq n m ≡ nat_eq m n
same_way n m = grind (arith, nat_tests)

some_cond : (b : Bool) (x : ℕ) (o : Option ℕ) → is_some (cond b (Some x) o) ≡ (b || is_some o)
some_cond true x o = refl
some_cond false x o = refl

-- a number that has redirects is that of an instance
pub has_known : (n : ℕ) (es : List (ℕ × ℕ)) → is_some (lookup (nat_eq n) es) ≡ list_any (λ each. nat_eq each.number n) (map defined_of es)
has_known n [] = refl
has_known n (e ∷ es) =
    some_cond (nat_eq n e.0) e.1 (lookup (nat_eq n) es)
    ∙ ap (λ b. b || is_some (lookup (nat_eq n) es)) (same_way n e.0)
    ∙ ap (λ b. nat_eq e.0 n || b) (has_known n es)

-- the redirects that are found
abbrev pub found : Option ℕ → ℕ
found None = 0
found (Some r) = r

found_cond : (b : Bool) (x : ℕ) (o : Option ℕ) → found (cond b (Some x) o) ≡ cond b x (found o)
found_cond true x o = refl
found_cond false x o = refl

pub redirects_known : (n : ℕ) (es : List (ℕ × ℕ)) → found (lookup (nat_eq n) es) ≡ redirects_at (map defined_of es) n
redirects_known n [] = refl
redirects_known n (e ∷ es) =
    found_cond (nat_eq n e.0) e.1 (lookup (nat_eq n) es)
    ∙ ap (λ b. cond b e.1 (found (lookup (nat_eq n) es))) (same_way n e.0)
    ∙ ap (λ r. cond (nat_eq e.0 n) e.1 r) (redirects_known n es)

-- what is asked of the entries is known of the instances
pub has_now : (n : ℕ) (es : List (ℕ × ℕ)) (known : List Defined) (r : Bool) → map defined_of es ≡ known → r ≡ is_some (lookup (nat_eq n) es) →
    r ≡ is_defined known n
has_now n es known r view h = h ∙ has_known n es ∙ ap (λ k. is_defined k n) view

pub redirects_now : (n : ℕ) (es : List (ℕ × ℕ)) (known : List Defined) (o : Option ℕ) → map defined_of es ≡ known → o ≡ lookup (nat_eq n) es →
    found o ≡ redirects_at known n
redirects_now n es known o view h = ap found h ∙ redirects_known n es ∙ ap (λ k. redirects_at k n) view

none_known : (o : Option ℕ) → is_some o ≡ false → o ≡ None
none_known None e = refl
none_known (Some r) e = absurd (true≢false e)

-- an instance whose number is new goes behind the others
pub put_new : {S : Type 0} (each : Defined) (m : IndexMap ℕ ℕ S) (known : List Defined) (new : List (ℕ × ℕ)) → map defined_of m.entries ≡ known →
    is_defined known each.number ≡ false → new ≡ insert_entry nat_eq m.entries each.number each.redirects → map defined_of new ≡ with_defined each known
put_new each m known new view absent h =
    let none : lookup (nat_eq each.number) m.entries ≡ None =
    none_known (lookup (nat_eq each.number) m.entries) (has_known each.number m.entries ∙ ap (λ k. is_defined k each.number) view ∙ absent) in
    ap (map defined_of) (h ∙ insert_entry-new nat_eq m each.number each.redirects none)
    ∙ map-append defined_of m.entries ((each.number, each.redirects) ∷ [])
    ∙ ap (λ l. l ++ each ∷ []) view
    ∙ sym (ap (λ b. cond b known (known ++ each ∷ [])) absent)
