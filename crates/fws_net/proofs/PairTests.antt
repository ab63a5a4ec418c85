-- Tests on two names, addresses or networks, which don't ask which comes first.
use Rattle.std.proofs.Common.{◌≡◌, ℕ, ◌+◌, ◌-◌, ◌/◌, ◌^◌, ◌≤◌, min, Bool, true, false, not, ◌&&◌, ◌||◌, nat_eq, List, [], ◌∷◌, map, refl, ap, ap₂, sym, ◌∙◌, arith}
use Rattle.std.proofs.Math.Nat.{div-div-eq-div-mul}
use Rattle.std.proofs.lemmas.Nat.{pow-add}
use Rattle.std.proofs.lemmas.Bool.{and_from, or_parts, eqb-true, eq-eqb, both_ways}
use Rattle.std.proofs.lemmas.Bool.Decides.{same_from_decides, Decides-eqb}
use Rattle.std.proofs.lemmas.Slice.Eq.{bytes_eq-Decides}
use Rattle.std.specs.List.{list_any, list_all}
use Rattle.std.specs.Str.{bytes_eq}
use Rattle.fws_iv.specs.Prefixes.{agree}
use Rattle.fws_net.specs.declared.site.Address.{Address}
use Rattle.fws_net.specs.declared.site.Names.{Names}
use Rattle.fws_net.specs.SiteLines.{share_name, nets_meet, is_same_net}
use Rattle.fws_net.specs.SiteLaws.{are_other_texts, are_other_names, are_other_addresses, are_other_nets, are_apart}
use Rattle.fws_net.proofs.Inserted.{IsSymmetric}

pub nat_eq-sym : (a b : ℕ) → nat_eq a b ≡ nat_eq b a
nat_eq-sym a b = same_from_decides (nat_eq a b) (nat_eq b a) (Decides-eqb a b)
    ((λ e. sym ((Decides-eqb b a).0 e)), (λ e. (Decides-eqb b a).1 (sym e)))

pub bytes_eq-sym : (a b : List ℕ) → bytes_eq a b ≡ bytes_eq b a
bytes_eq-sym a b = same_from_decides (bytes_eq a b) (bytes_eq b a) (bytes_eq-Decides a b)
    ((λ e. sym ((bytes_eq-Decides b a).0 e)), (λ e. (bytes_eq-Decides b a).1 (sym e)))

pub texts_symmetric : IsSymmetric are_other_texts
texts_symmetric a b = ap not (bytes_eq-sym a b)

pub share_name-sym : (a b : Names) → share_name a b ≡ share_name b a
share_name-sym a b =
    ap₂ (λ (x : Bool) (y : Bool). x || y)
    (ap₂ (λ (x : Bool) (y : Bool). x || y)
    (ap₂ (λ (x : Bool) (y : Bool). x || y) (bytes_eq-sym a.ipt b.ipt) (bytes_eq-sym a.ipfw b.ipfw)) (bytes_eq-sym a.pf b.pf))
    (bytes_eq-sym a.ios b.ios)

pub names_symmetric : IsSymmetric are_other_names
names_symmetric a b = ap not (share_name-sym a b)

pub addresses_symmetric : IsSymmetric are_other_addresses
addresses_symmetric a b = ap not (nat_eq-sym a.addr b.addr)

agree-sym : (n a b : ℕ) → agree n a b ≡ agree n b a
agree-sym n a b = nat_eq-sym _ _

same_len : (t : Bool) (a n b m : ℕ) → nat_eq n m ≡ t → (t && agree n a b) ≡ (t && agree m b a)
same_len true a n b m e = ap (λ k. agree k a b) (eqb-true n m e) ∙ agree-sym m a b
same_len false a n b m e = refl

pub is_same_net-sym : (a n b m : ℕ) → is_same_net a n b m ≡ is_same_net b m a n
is_same_net-sym a n b m = same_len (nat_eq n m) a n b m refl ∙ ap (λ t. t && agree m b a) (nat_eq-sym n m)

pub nets_symmetric : IsSymmetric are_other_nets
nets_symmetric a b = ap not (is_same_net-sym a.net.addr a.net.len b.net.addr b.net.len)

min-sym : (a b : ℕ) → min a b ≡ min b a
min-sym a b = omega arith

pub nets_meet-sym : (a b : Address) → nets_meet a b ≡ nets_meet b a
nets_meet-sym a b = ap (λ n. agree n a.addr b.addr) (min-sym a.len b.len) ∙ agree-sym (min b.len a.len) a.addr b.addr

pub apart_symmetric : IsSymmetric are_apart
apart_symmetric a b = ap not (nets_meet-sym a b)

-- what agrees in its first bits agrees in fewer

shorter_div : (k n a : ℕ) → k ≤ n → a / 2 ^ (32 - n) / 2 ^ ((32 - k) - (32 - n)) ≡ a / 2 ^ (32 - k)
shorter_div k n a h =
    let e : (32 - n) + ((32 - k) - (32 - n)) ≡ 32 - k = omega arith in
    div-div-eq-div-mul a (2 ^ (32 - n)) (2 ^ ((32 - k) - (32 - n)))
    ∙ ap (λ m. a / m) (sym (pow-add 2 (32 - n) ((32 - k) - (32 - n))) ∙ ap (λ m. 2 ^ m) e)

pub agree_shorter : (n k a b : ℕ) → k ≤ n → agree n a b ≡ true → agree k a b ≡ true
agree_shorter n k a b h e =
    eq-eqb (a / 2 ^ (32 - k)) (b / 2 ^ (32 - k))
    (sym (shorter_div k n a h) ∙ ap (λ m. m / 2 ^ ((32 - k) - (32 - n))) (eqb-true (a / 2 ^ (32 - n)) (b / 2 ^ (32 - n)) e) ∙ shorter_div k n b h)

-- Networks that don't meet

agree_same : (n a : ℕ) → agree n a a ≡ true
agree_same n a = eq-eqb _ _ refl

-- equal addresses agree
other_address : (t : Bool) (a b : Address) → nat_eq a.addr b.addr ≡ t → nets_meet a b ≡ false → t ≡ false
other_address false a b e h = refl
other_address true a b e h =
    absurd (both_ways (nets_meet a b) h (ap (λ x. agree (min a.len b.len) a.addr x) (sym (eqb-true a.addr b.addr e)) ∙ agree_same (min a.len b.len) a.addr))

pub apart_addresses : (a b : Address) → nets_meet a b ≡ false → nat_eq a.addr b.addr ≡ false
apart_addresses a b h = other_address (nat_eq a.addr b.addr) a b refl h

other_net : (t : Bool) (a b : Address) → nat_eq a.len b.len ≡ t → nets_meet a b ≡ false → (t && agree a.len a.addr b.addr) ≡ false
other_net false a b e h = refl
other_net true a b e h =
    let same : a.len ≡ b.len = eqb-true a.len b.len e in
    let least : a.len ≡ min a.len b.len = omega arith in
    ap (λ n. agree n a.addr b.addr) least ∙ h

pub apart_nets : (a b : Address) → nets_meet a b ≡ false → is_same_net a.addr a.len b.addr b.len ≡ false
apart_nets a b h = other_net (nat_eq a.len b.len) a b refl h

-- Where no item passes a test, each passes another one

pub none_all : {A : Type 0} (p q : A → Bool) → ((y : A) → p y ≡ false → q y ≡ true) → (xs : List A) → list_any p xs ≡ false → list_all q xs ≡ true
none_all p q by [] h = refl
none_all p q by (x ∷ xs) h =
    let parts = or_parts (p x) (list_any p xs) h in
    and_from (q x) (list_all q xs) (by x parts.0) (none_all p q by xs parts.1)

pub none_all_mapped : {A B : Type 0} (f : A → B) (p : A → Bool) (q : B → Bool) → ((y : A) → p y ≡ false → q (f y) ≡ true) → (xs : List A)
    → list_any p xs ≡ false → list_all q (map f xs) ≡ true
none_all_mapped f p q by [] h = refl
none_all_mapped f p q by (x ∷ xs) h =
    let parts = or_parts (p x) (list_any p xs) h in
    and_from (q (f x)) (list_all q (map f xs)) (by x parts.0) (none_all_mapped f p q by xs parts.1)
