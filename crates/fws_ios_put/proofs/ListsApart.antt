-- The lists of a configuration: found by their names, which differ.
use Rattle.std.proofs.Common.{◌≡◌, ◌≢◌, inl, inr, ℕ, suc, ◌+◌, ◌≤◌, Bool, true, false, cond, ◌&&◌, not, nat_eq, Some, None, List, [], ◌∷◌, ◌++◌, All, length, refl, sym, ap, ◌∙◌, arith, subst}
use Rattle.std.proofs.lemmas.Bool.{and_from, and_parts, cases_Bool, eqb-false, eqb-true, false_from_ne_true, not-true, not_from_false, or_from, or_parts}
use Rattle.std.proofs.lemmas.List.Folds.{list_any-append}
use Rattle.std.proofs.lemmas.Slice.Eq.{bytes_eq-Decides}
use Rattle.std.specs.List.{AllByRecursion, list_all, list_any}
use Rattle.std.specs.Str.{bytes_eq}
use Rattle.fws_net.specs.declared.site.Site.{Site}
use Rattle.fws_net.specs.declared.packet.Lang.TheVariants.{Ios}
use Rattle.fws_rules.specs.Names.{AreNamed}
use Rattle.fws_ios.specs.declared.config.IosList.{IosList}
use Rattle.fws_ios.specs.Soundness.{are_apart}
use Rattle.fws_ios.specs.Walk.{list_named}
use Rattle.fws_ios_print.specs.Printable.{has_entries, is_list_name, is_printed_entry, is_printed_list}
use Rattle.fws_ios_put_sources.specs.Sources.{IsMarked}
use Rattle.fws_tree.specs.Plain.{Plain}
use Rattle.fws_ios_put.specs.Layout.{AreLists, IsFound, IsNamedBelow, IsOwnList, IsPut, is_keeper, leader, list_name}
use Rattle.fws_ios_put.proofs.ListNames.{good_name, one_name}
use Rattle.fws_ios_put.proofs.Parts.{all_both}

-- Finding

-- no list has the name
abbrev lacks_name : List ℕ → List IosList → Bool
lacks_name name lists = not (list_any (λ (l : IosList). bytes_eq l.name name) lists)

-- what is found stays found, and what isn't is found further on
find_front : (name : List ℕ) (xs ys : List IosList) (l : IosList) → list_named name xs ≡ Some l → list_named name (xs ++ ys) ≡ Some l
find_front name [] ys l h = absurd (not_found h) where
  not_found : None ≡ Some l → ⊥
  not_found h = cc
find_front name (x ∷ xs) ys l h = by (bytes_eq x.name name) (find_front name xs ys l) h where
  by : (b : Bool) → (list_named name xs ≡ Some l → list_named name (xs ++ ys) ≡ Some l) → cond b (Some x) (list_named name xs) ≡ Some l → cond b (Some x) (list_named name (xs ++ ys)) ≡ Some l
  by true further h = h
  by false further h = further h

find_behind : (name : List ℕ) (xs ys : List IosList) → list_any (λ (l : IosList). bytes_eq l.name name) xs ≡ false → list_named name (xs ++ ys) ≡ list_named name ys
find_behind name [] ys h = refl
find_behind name (x ∷ xs) ys h =
    let both = or_parts (bytes_eq x.name name) (list_any (λ (l : IosList). bytes_eq l.name name) xs) h in
    ap (λ (b : Bool). cond b (Some x) (list_named name (xs ++ ys))) both.0 ∙ find_behind name xs ys both.1

-- lists are apart with those of others behind them, where no two names of both are equal
apart_both : (xs ys : List IosList) → are_apart xs ≡ true → are_apart ys ≡ true
    → AllByRecursion (λ (x : IosList). list_any (λ (other : IosList). bytes_eq other.name x.name) ys ≡ false) xs → are_apart (xs ++ ys) ≡ true
apart_both [] ys a b h = b
apart_both (x ∷ xs) ys a b h =
    let both = and_parts (not (list_any (λ (other : IosList). bytes_eq other.name x.name) xs)) (are_apart xs) a in
    and_from (not (list_any (λ (other : IosList). bytes_eq other.name x.name) (xs ++ ys))) (are_apart (xs ++ ys))
    (not_from_false (list_any (λ (other : IosList). bytes_eq other.name x.name) (xs ++ ys))
    (list_any-append (λ (other : IosList). bytes_eq other.name x.name) xs ys ∙ or_from _ _ (not-true _ both.0) h.0))
    (apart_both xs ys both.1 b h.1)

all_same : {X : Type 0} (P Q : X → Type 0) → ((x : X) → P x → Q x) → (xs : List X) → AllByRecursion P xs → AllByRecursion Q xs
all_same P Q by [] h = tt
all_same P Q by (x ∷ xs) h = (by x h.0, all_same P Q by xs h.1)

all_append : {X : Type 0} (P : X → Type 0) (xs ys : List X) → AllByRecursion P xs → AllByRecursion P ys → AllByRecursion P (xs ++ ys)
all_append P [] ys a b = b
all_append P (x ∷ xs) ys a b = (a.0, all_append P xs ys a.1 b)

none_of : (name : List ℕ) (xs : List IosList) → AllByRecursion (λ (x : IosList). bytes_eq x.name name ≡ false) xs → list_any (λ (l : IosList). bytes_eq l.name name) xs ≡ false
none_of name [] h = refl
none_of name (x ∷ xs) h = or_from (bytes_eq x.name name) (list_any (λ (l : IosList). bytes_eq l.name name) xs) h.0 (none_of name xs h.1)

other_name : (a b : List ℕ) → (a ≡ b → ⊥) → bytes_eq a b ≡ false
other_name a b differ = false_from_ne_true (bytes_eq a b) (λ h. differ ((bytes_eq-Decides a b).0 h))

-- Lists of entries

module _ (site : Site) (are_named : AreNamed Ios site) (new known : Plain Bool) (leaders : List ℕ) where
  pub no_lists : AreLists site new known leaders 1 []
  no_lists = record {
    found = λ entry low high leads. absurd (omega arith);
    named = tt;
    apart = refl;
    printed = refl;
    keeping = refl;
  }

  below_more : (end : ℕ) (x : IosList) → IsNamedBelow site leaders end x → IsNamedBelow site leaders (end + 1) x
  below_more end x named = record { entry = named.entry; low = named.low; high = (let lt = named.high in omega arith); name = named.name }

  unnamed : (end : ℕ) → end ≤ length site.faces + 1 → 1 ≤ end → (x : IosList) → IsNamedBelow site leaders end x → bytes_eq x.name (list_name site leaders end) ≡ false
  unnamed end high low x named =
      let lt = named.high in
      other_name x.name (list_name site leaders end) (λ h.
      let same = one_name site are_named leaders named.entry end named.low (omega arith) low high (sym named.name ∙ h) in omega arith)

  turned : (a b : List ℕ) → bytes_eq a b ≡ false → bytes_eq b a ≡ false
  turned a b h = other_name b a (λ e. not_both (sym ((bytes_eq-Decides a b).1 (sym e)) ∙ h)) where
    not_both : true ≡ false → ⊥
    not_both h = cc

  -- one more entry
  pub more_lists : (end : ℕ) (before after : List IosList) → 1 ≤ end → end ≤ length site.faces + 1 → AreLists site new known leaders end before
      → IsPut site new known leaders end before after → AreLists site new known leaders (end + 1) after
  more_lists end before after low high lists (inl none) = subst (λ (ls : List IosList). AreLists site new known leaders (end + 1) ls) (sym none.1) (record {
    found = λ entry low_e high_e leads. elim (cases_Bool (nat_eq entry end)) [
      | inl e ↦ absurd (none.0 (subst (λ n. leader leaders n ≡ n) (eqb-true entry end e) leads))
      | inr e ↦ (let other : entry ≢ end = eqb-false entry end e in lists.found entry low_e (omega arith) leads)
    ];
    named = all_same (IsNamedBelow site leaders end) (IsNamedBelow site leaders (end + 1)) (below_more end) before lists.named;
    apart = lists.apart;
    printed = lists.printed;
    keeping = lists.keeping;
  })
  more_lists end before after low high lists (inr put) = subst (λ (ls : List IosList). AreLists site new known leaders (end + 1) ls) (sym put.1) (record {
    found = λ entry low_e high_e leads. elim (cases_Bool (nat_eq entry end)) [
      | inl e ↦ (newest entry (eqb-true entry end e))
      | inr e ↦ (let other : entry ≢ end = eqb-false entry end e in earlier (lists.found entry low_e (omega arith) leads))
    ];
    named = all_append (IsNamedBelow site leaders (end + 1)) before (l ∷ []) (all_same (IsNamedBelow site leaders end) (IsNamedBelow site leaders (end + 1)) (below_more end) before lists.named)
        (record { entry = end; low = low; high = omega arith; name = own.name }, tt);
    apart = apart_both before (l ∷ []) lists.apart refl (all_same (IsNamedBelow site leaders end) (λ (x : IosList). list_any (λ (other : IosList). bytes_eq other.name x.name) (l ∷ []) ≡ false)
        (λ x named. or_from (bytes_eq l.name x.name) false (ap (λ (n : List ℕ). bytes_eq n x.name) own.name ∙ turned x.name (list_name site leaders end) (unnamed end high low x named)) refl) before lists.named);
    printed = all_both is_printed_list before (l ∷ []) lists.printed (and_from (is_printed_list l) true printed_own refl);
    keeping = all_both is_keeper before (l ∷ []) lists.keeping (and_from (is_keeper l) true own.decides.decides.formed.keeps refl);
  }) where
    l : IosList
    l = put.0

    own : IsOwnList site new known leaders end put.0
    own = put.2

    printed_own : is_printed_list put.0 ≡ true
    printed_own =
        and_from (is_list_name put.0.name && has_entries put.0.entries) (list_all is_printed_entry put.0.entries)
        (and_from (is_list_name put.0.name) (has_entries put.0.entries) (ap is_list_name put.2.name ∙ good_name site are_named leaders end low high) put.2.decides.decides.there)
        put.2.decides.decides.formed.printed

    earlier : {entry : ℕ} → IsFound site new known leaders before entry → IsFound site new known leaders (before ++ put.0 ∷ []) entry
    earlier {entry} had = record { l = had.l; found = find_front (list_name site leaders entry) before (put.0 ∷ []) had.l had.found; decides = had.decides }

    newest : (entry : ℕ) → entry ≡ end → IsFound site new known leaders (before ++ put.0 ∷ []) entry
    newest entry e = subst (λ n. IsFound site new known leaders (before ++ put.0 ∷ []) n) (sym e) (record {
      l = put.0;
      found = find_behind (list_name site leaders end) before (put.0 ∷ [])
          (none_of (list_name site leaders end) before (all_same (IsNamedBelow site leaders end) (λ (x : IosList). bytes_eq x.name (list_name site leaders end) ≡ false) (unnamed end high low) before lists.named))
          ∙ ap (λ (b : Bool). cond b (Some put.0) None) ((bytes_eq-Decides put.0.name (list_name site leaders end)).1 put.2.name);
      decides = put.2.decides;
    })

  -- Translation lists behind them

  -- a name of a list of an entry isn't marked
  unmarked : (end : ℕ) (x : IosList) → IsNamedBelow site leaders end x → (name : List ℕ) → IsMarked name → bytes_eq x.name name ≡ false
  unmarked end x named name marked = ap (λ (n : List ℕ). bytes_eq n name) named.name ∙ ap (λ (n : List ℕ). bytes_eq (list_name site leaders named.entry) n) marked.1

  marked_named : (ys : List IosList) → All (λ (l : IosList). IsMarked l.name) ys → AllByRecursion (λ (l : IosList). IsMarked l.name) ys
  marked_named [] h = tt
  marked_named (y ∷ ys) h = (h 0 y (omega arith), marked_named ys (λ k d lt. h (suc k) d (omega arith)))

  pub marked_found : (end : ℕ) (xs ys : List IosList) → AllByRecursion (IsNamedBelow site leaders end) xs → (name : List ℕ) → IsMarked name → list_named name (xs ++ ys) ≡ list_named name ys
  marked_found end xs ys named name marked =
      find_behind name xs ys (none_of name xs (all_same (IsNamedBelow site leaders end) (λ (x : IosList). bytes_eq x.name name ≡ false) (λ x h. unmarked end x h name marked) xs named))

  pub own_found : (xs ys : List IosList) (entry : ℕ) → IsFound site new known leaders xs entry → IsFound site new known leaders (xs ++ ys) entry
  own_found xs ys entry had = record { l = had.l; found = find_front (list_name site leaders entry) xs ys had.l had.found; decides = had.decides }

  pub all_apart : (end : ℕ) (xs ys : List IosList) → AllByRecursion (IsNamedBelow site leaders end) xs → All (λ (l : IosList). IsMarked l.name) ys → are_apart xs ≡ true → are_apart ys ≡ true → are_apart (xs ++ ys) ≡ true
  all_apart end xs ys named marked a b = apart_both xs ys a b (all_same (IsNamedBelow site leaders end) (λ (x : IosList). list_any (λ (other : IosList). bytes_eq other.name x.name) ys ≡ false)
      (λ x h. none_of x.name ys (all_same (λ (l : IosList). IsMarked l.name) (λ (l : IosList). bytes_eq l.name x.name ≡ false) (λ l m. turned x.name l.name (unmarked end x h l.name m)) ys (marked_named ys marked))) xs named)
