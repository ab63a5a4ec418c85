-- Names of interfaces: they are plain words, and lead to their entries.
use Rattle.std.proofs.Common.{◌≡◌, ◌≢◌, ℕ, zero, suc, ◌+◌, ◌-◌, ◌<◌, ◌≤◌, Bool, true, false, cond, ◌&&◌, ◌||◌, not, nat_eq, nat_le, Some, List, [], ◌∷◌, ◌++◌, map, length, slice_get, refl, ap, sym, ◌∙◌, inl, inr, arith}
use Rattle.std.proofs.lemmas.Bool.{and_from, and_parts, or_left, or_cases, or_parts, cases_Bool, leb-true, le-leb, eqb-true, eqb-false, not-true, false≢true, false_from_ne_true, true≢false}
use Rattle.std.proofs.lemmas.List.Folds.{list_all-append}
use Rattle.std.proofs.lemmas.Slice.Eq.{bytes_eq-Decides}
use Rattle.std.specs.List.{list_all, range_with_len}
use Rattle.std.specs.Option.{option_map_or}
use Rattle.std.specs.Str.{bytes_eq}
use Rattle.fws_num.specs.Numbers.{is_digit}
use Rattle.fws_num.specs.Written.{is_plain, is_plain_byte}
use Rattle.fws_net.specs.declared.packet.Lang.{Lang}
use Rattle.fws_net.specs.declared.packet.Lang.TheVariants.{Iptables, Ipfw, Pf, Ios}
use Rattle.fws_net.specs.declared.site.Iface.{Iface}
use Rattle.fws_net.specs.declared.site.Names.{Names}
use Rattle.fws_net.specs.declared.site.Site.{Site}
use Rattle.fws_net.specs.Faces.{entry_named, name_in, named_from}
use Rattle.fws_net.specs.SiteLaws.{all_pairs, are_names, are_other_names, IsOrderly}
use Rattle.fws_net.specs.SiteLines.{share_name}
use Rattle.fws_net.specs.SiteWords.{is_letter, is_name, is_name_byte as is_site_byte}
use Rattle.fws_rules.specs.Names.{interface_name, is_own_byte, AreNamed, OrderlySitesAreNamed}

if_true : {A : Type 0} (b : Bool) (x y : A) → b ≡ true → cond b x y ≡ x
if_true b x y e = ap (λ t. cond t x y) e

if_false : {A : Type 0} (b : Bool) (x y : A) → b ≡ false → cond b x y ≡ y
if_false b x y e = ap (λ t. cond t x y) e

bytes_same : (a : List ℕ) → bytes_eq a a ≡ true
bytes_same a = (bytes_eq-Decides a a).1 refl

-- a test that holds of the numbers from one on holds of each of them
at_number : (p : ℕ → Bool) (a n m : ℕ) → list_all p (range_with_len a n) ≡ true → a ≤ m → m < a + n → p m ≡ true
at_number p a zero m h low high = absurd (omega arith)
at_number p a (suc n) m h low high =
    let parts = and_parts (p a) (list_all p (range_with_len (a + 1) n)) h in
    elim (cases_Bool (nat_eq a m)) [
      | inl e ↦ ap p (sym (eqb-true a m e)) ∙ parts.0
      | inr e ↦ (let other : a ≢ m = eqb-false a m e in at_number p (a + 1) n m parts.1 (omega arith) (omega arith))
    ]

-- what is implied by a test that holds
implied : (a b : Bool) → a ≡ true → (not a || b) ≡ true → b ≡ true
implied true b h k = k
implied false b h k = absurd (false≢true h)

-- Bytes of names

-- a byte from 45 to 122
abbrev is_middle : ℕ → Bool
is_middle c = nat_le 45 c && nat_le c 122

middle : (c : ℕ) → 45 ≤ c → c ≤ 122 → is_middle c ≡ true
middle c low high = and_from (nat_le 45 c) (nat_le c 122) (le-leb 45 c low) (le-leb c 122 high)

between : (a b c : ℕ) → 45 ≤ a → b ≤ 122 → (nat_le a c && nat_le c b) ≡ true → is_middle c ≡ true
between a b c low high h =
    let parts = and_parts (nat_le a c) (nat_le c b) h in
    let from : a ≤ c = leb-true a c parts.0 in
    let to : c ≤ b = leb-true c b parts.1 in
    middle c (omega arith) (omega arith)

this_byte : (c k : ℕ) → is_middle k ≡ true → nat_eq c k ≡ true → is_middle c ≡ true
this_byte c k h e = ap is_middle (eqb-true c k e) ∙ h

either : (x y : Bool) (b : Bool) → (x ≡ true → b ≡ true) → (y ≡ true → b ≡ true) → (x || y) ≡ true → b ≡ true
either x y b f g h = elim (or_cases x y h) [ inl e ↦ f e | inr e ↦ g e ]

letter_middle : (c : ℕ) → is_letter c ≡ true → is_middle c ≡ true
letter_middle c = either (nat_le 65 c && nat_le c 90) (nat_le 97 c && nat_le c 122) (is_middle c) (between 65 90 c (omega arith) (omega arith)) (between 97 122 c (omega arith) (omega arith))

digit_middle : (c : ℕ) → is_digit c ≡ true → is_middle c ≡ true
digit_middle c h = between 48 57 c (omega arith) (omega arith) h

site_byte_middle : (c : ℕ) → is_site_byte c ≡ true → is_middle c ≡ true
site_byte_middle c =
    either (is_letter c || is_digit c || nat_eq c 95 || nat_eq c 46 || nat_eq c 47) (nat_eq c 45) (is_middle c)
    (either (is_letter c || is_digit c || nat_eq c 95 || nat_eq c 46) (nat_eq c 47) (is_middle c)
    (either (is_letter c || is_digit c || nat_eq c 95) (nat_eq c 46) (is_middle c)
    (either (is_letter c || is_digit c) (nat_eq c 95) (is_middle c) (either (is_letter c) (is_digit c) (is_middle c) (letter_middle c) (digit_middle c)) (this_byte c 95 refl))
    (this_byte c 46 refl))
    (this_byte c 47 refl))
    (this_byte c 45 refl)

all_plain : list_all (λ c. not (is_site_byte c) || is_plain_byte c) (range_with_len 45 78) ≡ true
all_plain = refl

site_byte_plain : (c : ℕ) → is_site_byte c ≡ true → is_plain_byte c ≡ true
site_byte_plain c h =
    let parts = and_parts (nat_le 45 c) (nat_le c 122) (site_byte_middle c h) in
    let low : 45 ≤ c = leb-true 45 c parts.0 in
    let high : c ≤ 122 = leb-true c 122 parts.1 in
    implied (is_site_byte c) (is_plain_byte c) h (at_number (λ c. not (is_site_byte c) || is_plain_byte c) 45 78 c all_plain low (omega arith))

site_byte_own : (c : ℕ) → is_site_byte c ≡ true → is_own_byte c ≡ true
site_byte_own c h = and_from (is_site_byte c) (is_middle c) h (site_byte_middle c h)

all_weaker : (q : ℕ → Bool) → ((c : ℕ) → is_site_byte c ≡ true → q c ≡ true) → (cs : List ℕ) → list_all is_site_byte cs ≡ true → list_all q cs ≡ true
all_weaker q by [] h = refl
all_weaker q by (c ∷ cs) h =
    let parts = and_parts (is_site_byte c) (list_all is_site_byte cs) h in
    and_from (q c) (list_all q cs) (by c parts.0) (all_weaker q by cs parts.1)

letter_site : (c : ℕ) → is_letter c ≡ true → is_site_byte c ≡ true
letter_site c h =
    or_left (is_letter c || is_digit c || nat_eq c 95 || nat_eq c 46 || nat_eq c 47) (nat_eq c 45)
    (or_left (is_letter c || is_digit c || nat_eq c 95 || nat_eq c 46) (nat_eq c 47)
    (or_left (is_letter c || is_digit c || nat_eq c 95) (nat_eq c 46)
    (or_left (is_letter c || is_digit c) (nat_eq c 95) (or_left (is_letter c) (is_digit c) h))))

-- all bytes of a name are bytes of names
name_bytes : (text : List ℕ) → is_name text ≡ true → list_all is_site_byte text ≡ true
name_bytes [] h = refl
name_bytes (c ∷ cs) h =
    let parts = and_parts (is_letter c && list_all is_site_byte cs) (nat_le (length cs) 29) h in
    let front = and_parts (is_letter c) (list_all is_site_byte cs) parts.0 in
    and_from (is_site_byte c) (list_all is_site_byte cs) (letter_site c front.0) front.1

-- a name is a plain word
name_plain : (text : List ℕ) → is_name text ≡ true → is_plain text ≡ true
name_plain [] h = absurd cc
name_plain (c ∷ cs) h =
    let long : 1 ≤ length (c ∷ cs) = omega arith in
    and_from (nat_le 1 (length (c ∷ cs))) (list_all is_plain_byte (c ∷ cs)) (le-leb 1 (length (c ∷ cs)) long)
    (all_weaker is_plain_byte site_byte_plain (c ∷ cs) (name_bytes (c ∷ cs) h))

-- Names

abbrev all_names : List Iface → List Names
all_names faces = map (λ face. face.names) faces

pairs_front : {A : Type 0} (t : A → A → Bool) (xs ys : List A) → all_pairs t (xs ++ ys) ≡ true → all_pairs t xs ≡ true
pairs_front t [] ys h = refl
pairs_front t (x ∷ xs) ys h =
    let parts = and_parts (list_all (t x) (xs ++ ys)) (all_pairs t (xs ++ ys)) h in
    let front = and_parts (list_all (t x) xs) (list_all (t x) ys) (sym (list_all-append (t x) xs ys) ∙ parts.0) in
    and_from (list_all (t x) xs) (all_pairs t xs) front.0 (pairs_front t xs ys parts.1)

-- names that aren't shared differ in each system
other_names : (lang : Lang) (a b : Names) → are_other_names a b ≡ true → bytes_eq (name_in lang a) (name_in lang b) ≡ false
other_names lang a b h = by lang
  where
    all : ((bytes_eq a.ipt b.ipt || bytes_eq a.ipfw b.ipfw || bytes_eq a.pf b.pf) ≡ false) × (bytes_eq a.ios b.ios ≡ false)
    all = or_parts (bytes_eq a.ipt b.ipt || bytes_eq a.ipfw b.ipfw || bytes_eq a.pf b.pf) (bytes_eq a.ios b.ios) (not-true (share_name a b) h)

    three : ((bytes_eq a.ipt b.ipt || bytes_eq a.ipfw b.ipfw) ≡ false) × (bytes_eq a.pf b.pf ≡ false)
    three = or_parts (bytes_eq a.ipt b.ipt || bytes_eq a.ipfw b.ipfw) (bytes_eq a.pf b.pf) all.0

    two : (bytes_eq a.ipt b.ipt ≡ false) × (bytes_eq a.ipfw b.ipfw ≡ false)
    two = or_parts (bytes_eq a.ipt b.ipt) (bytes_eq a.ipfw b.ipfw) three.0

    by : (lang : Lang) → bytes_eq (name_in lang a) (name_in lang b) ≡ false
    by Iptables = two.0
    by Ipfw = two.1
    by Pf = three.1
    by Ios = all.1

turned : (a b : List ℕ) → bytes_eq a b ≡ false → bytes_eq b a ≡ false
turned a b h = false_from_ne_true (bytes_eq b a) (λ e. true≢false (sym ((bytes_eq-Decides a b).1 (sym ((bytes_eq-Decides b a).0 e))) ∙ h))

test_at : (p : Names → Bool) (faces : List Iface) (k : ℕ) → k < length faces → list_all p (all_names faces) ≡ true → (face : Iface) × (slice_get faces k ≡ Some face) × (p face.names ≡ true)
test_at p [] k h all = absurd (omega arith)
test_at p (face ∷ faces) zero h all = (face, refl, (and_parts (p face.names) (list_all p (all_names faces)) all).0)
test_at p (face ∷ faces) (suc k) h all = test_at p faces k (omega arith) (and_parts (p face.names) (list_all p (all_names faces)) all).1

-- every interface has another name than loopback
others_than : (lo : Names) (names : List Names) → all_pairs are_other_names (names ++ lo ∷ []) ≡ true → list_all (λ a. are_other_names a lo) names ≡ true
others_than lo [] h = refl
others_than lo (a ∷ names) h =
    let parts = and_parts (list_all (are_other_names a) (names ++ lo ∷ [])) (all_pairs are_other_names (names ++ lo ∷ [])) h in
    let front = and_parts (list_all (are_other_names a) names) (list_all (are_other_names a) (lo ∷ [])) (sym (list_all-append (are_other_names a) names (lo ∷ [])) ∙ parts.0) in
    and_from (are_other_names a lo) (list_all (λ a. are_other_names a lo) names) (and_parts (are_other_names a lo) true front.1).0 (others_than lo names parts.1)

-- names are spelled in each system
own_name : (lang : Lang) (names : Names) → are_names names ≡ true → is_name (name_in lang names) ≡ true
own_name lang names h = by lang
  where
    all : ((is_name names.ipt && is_name names.ipfw && is_name names.pf) ≡ true) × (is_name names.ios ≡ true)
    all = and_parts (is_name names.ipt && is_name names.ipfw && is_name names.pf) (is_name names.ios) h

    three : ((is_name names.ipt && is_name names.ipfw) ≡ true) × (is_name names.pf ≡ true)
    three = and_parts (is_name names.ipt && is_name names.ipfw) (is_name names.pf) all.0

    two : (is_name names.ipt ≡ true) × (is_name names.ipfw ≡ true)
    two = and_parts (is_name names.ipt) (is_name names.ipfw) three.0

    by : (lang : Lang) → is_name (name_in lang names) ≡ true
    by Iptables = two.0
    by Ipfw = two.1
    by Pf = three.1
    by Ios = all.1

-- Entries, in one system

module _ (lang : Lang) where
  -- the name of the interface with this number
  abbrev name_from : List Iface → ℕ → List ℕ
  name_from faces k = option_map_or (λ face. name_in lang face.names) (slice_get faces k) []

  entry_found : (n : ℕ) (faces : List Iface) (k : ℕ) → k < length faces → all_pairs are_other_names (all_names faces) ≡ true
      → named_from n lang faces (name_from faces k) ≡ Some (n + k)
  entry_found n [] k h differ = absurd (omega arith)
  entry_found n (face ∷ faces) zero h differ =
      let own = name_in lang face.names in
      let same : n ≡ n + 0 = omega arith in
      if_true (bytes_eq own own) (Some n) (named_from (suc n) lang faces own) (bytes_same own) ∙ ap (λ m. Some m) same
  entry_found n (face ∷ faces) (suc k) h differ =
      let own = name_in lang face.names in
      let parts = and_parts (list_all (are_other_names face.names) (all_names faces)) (all_pairs are_other_names (all_names faces)) differ in
      let inside : k < length faces = omega arith in
      let found = test_at (are_other_names face.names) faces k inside parts.0 in
      let name = ap (λ o. option_map_or (λ face. name_in lang face.names) o []) found.1 in
      let other : bytes_eq own (name_from faces k) ≡ false = ap (bytes_eq own) name ∙ other_names lang face.names found.0.names found.2 in
      let same : suc n + k ≡ n + suc k = omega arith in
      if_false (bytes_eq own (name_from faces k)) (Some n) (named_from (suc n) lang faces (name_from faces k)) other
      ∙ entry_found (suc n) faces k inside parts.1 ∙ ap (λ m. Some m) same

  named_entry : (site : Site) → IsOrderly site → (n : ℕ) → 1 ≤ n → n ≤ length site.faces + 1 → entry_named lang site (interface_name lang site n) ≡ Some n
  named_entry site h n low high =
      let lo = name_in lang site.lo in
      elim (cases_Bool (nat_eq n 1)) [
        | inl e ↦
            (ap (entry_named lang site) (if_true (nat_eq n 1) lo (name_from site.faces (n - 2)) e)
            ∙ if_true (bytes_eq lo lo) (Some 1) (named_from 2 lang site.faces lo) (bytes_same lo)
            ∙ ap (λ m. Some m) (sym (eqb-true n 1 e)))
        | inr e ↦
            (let other : n ≢ 1 = eqb-false n 1 e in
            let inside : n - 2 < length site.faces = omega arith in
            let same : 2 + (n - 2) ≡ n = omega arith in
            let found = test_at (λ a. are_other_names a site.lo) site.faces (n - 2) inside (others_than site.lo (all_names site.faces) h.system_names_differ) in
            let name : name_from site.faces (n - 2) ≡ name_in lang found.0.names = ap (λ o. option_map_or (λ face. name_in lang face.names) o []) found.1 in
            let off : bytes_eq lo (name_from site.faces (n - 2)) ≡ false =
            ap (bytes_eq lo) name ∙ turned (name_in lang found.0.names) lo (other_names lang found.0.names site.lo found.2) in
            ap (entry_named lang site) (if_false (nat_eq n 1) lo (name_from site.faces (n - 2)) e)
            ∙ if_false (bytes_eq lo (name_from site.faces (n - 2))) (Some 1) (named_from 2 lang site.faces (name_from site.faces (n - 2))) off
            ∙ entry_found 2 site.faces (n - 2) inside (pairs_front are_other_names (all_names site.faces) (site.lo ∷ []) h.system_names_differ)
            ∙ ap (λ m. Some m) same)
      ]

  name_of_face : (faces : List Iface) (k : ℕ) → k < length faces → list_all (λ face. is_name face.name && are_names face.names) faces ≡ true → is_name (name_from faces k) ≡ true
  name_of_face [] k h all = absurd (omega arith)
  name_of_face (face ∷ faces) zero h all =
      let parts = and_parts (is_name face.name && are_names face.names) (list_all (λ face. is_name face.name && are_names face.names) faces) all in
      own_name lang face.names (and_parts (is_name face.name) (are_names face.names) parts.0).1
  name_of_face (face ∷ faces) (suc k) h all =
      name_of_face faces k (omega arith) (and_parts (is_name face.name && are_names face.names) (list_all (λ face. is_name face.name && are_names face.names) faces) all).1

  name_spelled : (site : Site) → IsOrderly site → (n : ℕ) → 1 ≤ n → n ≤ length site.faces + 1 → is_name (interface_name lang site n) ≡ true
  name_spelled site h n low high =
      elim (cases_Bool (nat_eq n 1)) [
        | inl e ↦ ap is_name (if_true (nat_eq n 1) (name_in lang site.lo) (name_from site.faces (n - 2)) e) ∙ own_name lang site.lo h.loopback_spelled
        | inr e ↦
            (let other : n ≢ 1 = eqb-false n 1 e in
            let inside : n - 2 < length site.faces = omega arith in
            ap is_name (if_false (nat_eq n 1) (name_in lang site.lo) (name_from site.faces (n - 2)) e) ∙ name_of_face site.faces (n - 2) inside h.names_spelled)
      ]

pub orderly_sites_are_named : OrderlySitesAreNamed
orderly_sites_are_named lang site h = record {
  plain = λ n low high. name_plain (interface_name lang site n) (name_spelled lang site h n low high);
  bytes = λ n low high. all_weaker is_own_byte site_byte_own (interface_name lang site n) (name_bytes (interface_name lang site n) (name_spelled lang site h n low high));
  leads = named_entry lang site h;
}
