-- What holds of the words of a site file that are read.
use Rattle.std.proofs.Common.{◌≡◌, ℕ, ◌+◌, ◌-◌, ◌*◌, ◌/◌, ◌%◌, ◌^◌, ◌<◌, ◌≤◌, true, false, ◌&&◌, nat_eq, nat_le, nat_lt, Some, None, Ok, Err, List, [], ◌∷◌, length, drop, codes, IfOk, IfSome, ap, ◌∙◌, arith}
use Rattle.std.proofs.Math.Nat.{div-add-mod, mul-mod_right}
use Rattle.std.proofs.lemmas.Bool.{and_from, and_parts, leb-true, lt-ltb, le-leb, eq-eqb, eqb-false}
use Rattle.std.specs.List.{starts_with}
use Rattle.fws_num.specs.declared.prefix.Prefix.{Prefix}
use Rattle.fws_num.specs.declared.word.Word.{Word}
use Rattle.fws_num.specs.Numbers.{is_digit, digits_value, dec_of, quad_of, split_once, QuadsAreDotted}
use Rattle.std.specs.List.{list_all}
use Rattle.fws_net.specs.declared.cause.SiteCause.TheVariants.{Syntax}
use Rattle.fws_net.specs.declared.site.Address.{Address}
use Rattle.fws_net.specs.declared.site.Names.{Names}
use Rattle.fws_net.specs.declared.site.Side.{Side}
use Rattle.fws_net.specs.SiteWords.{is_name, name_of, name_behind, names_of, names_and_side, side_of, address_and_len, address_of, net_of}
use Rattle.fws_net.specs.SiteLaws.{are_names}
use Rattle.fws_net.specs.SiteLines.{behind_face}
use Rattle.fws_net.proofs.Results.{then_holds, then_known, either_holds, ok_or_holds, some_then, some_mapped, some_value, either_some}
use Rattle.fws_net.proofs.SiteInvariant.{is_sound_address}

-- Names

abbrev pub IsName : List ℕ → Type 0
IsName text = is_name text ≡ true

pub name_holds : (text : List ℕ) → IfOk (name_of text) IsName
name_holds text = either_holds IsName (is_name text) (Ok text) (Err Syntax) (λ e. e) (λ e. tt)

behind_holds : (front : List ℕ) (w : Word) → IfOk (name_behind front w) IsName
behind_holds front w =
    either_holds IsName (starts_with nat_eq w.text front) (name_of (drop (length front) w.text)) (Err Syntax) (λ e. name_holds (drop (length front) w.text)) (λ e. tt)

abbrev pub AreNames : Names → Type 0
AreNames names = are_names names ≡ true

pub names_hold : (a b c d : Word) → IfOk (names_of a b c d) AreNames
unfolding names_of
names_hold a b c d =
    then_known IsName AreNames (name_behind (codes "ipt=") a) _ (behind_holds (codes "ipt=") a) (λ ipt h.
    then_known IsName AreNames (name_behind (codes "ipfw=") b) _ (behind_holds (codes "ipfw=") b) (λ ipfw i.
    then_known IsName AreNames (name_behind (codes "pf=") c) _ (behind_holds (codes "pf=") c) (λ pf j.
    then_known IsName AreNames (name_behind (codes "ios=") d) _ (behind_holds (codes "ios=") d) (λ ios k.
    and_from (is_name ipt && is_name ipfw && is_name pf) (is_name ios)
    (and_from (is_name ipt && is_name ipfw) (is_name pf) (and_from (is_name ipt) (is_name ipfw) h i) j) k))))

abbrev pub BehindHolds : Names × Side → Type 0
BehindHolds rest = are_names rest.0 ≡ true

names_and_side_hold : (a b c d e : Word) → IfOk (names_and_side a b c d e) BehindHolds
unfolding names_and_side
names_and_side_hold a b c d e =
    then_known AreNames BehindHolds (names_of a b c d) _ (names_hold a b c d) (λ names h.
    then_holds BehindHolds (side_of e) _ (λ side. h))

pub behind_face_holds : (ws : List Word) → IfOk (behind_face ws) BehindHolds
behind_face_holds (a ∷ b ∷ c ∷ d ∷ e ∷ []) = names_and_side_hold a b c d e
behind_face_holds _ = tt

-- Addresses and networks

dec_holds : (text : List ℕ) (most : ℕ) → IfSome (dec_of text most) (λ n. n ≤ most)
dec_holds text most =
    let front = list_all is_digit text && nat_le 1 (length text) && nat_le (length text) 20 in
    either_some (λ n. n ≤ most) (front && nat_le (digits_value text) most) (Some (digits_value text)) None
    (λ e. leb-true (digits_value text) most (and_parts front (nat_le (digits_value text) most) e).1) (λ e. tt)

quad_holds : QuadsAreDotted → (text : List ℕ) → IfSome (quad_of text) (λ a. a < 2 ^ 32)
quad_holds q text = some_value (λ a. a < 2 ^ 32) (quad_of text) (λ a e. (q.1 text a e).0)

abbrev AreInRange : ℕ × ℕ → Type 0
AreInRange parts = (parts.0 < 2 ^ 32) × (parts.1 ≤ 32)

address_and_len_holds : QuadsAreDotted → (text : List ℕ) → IfSome (address_and_len text) AreInRange
address_and_len_holds q text =
    some_then (λ parts. Unit {0}) AreInRange (split_once 47 text) _ (some_value (λ parts. Unit {0}) (split_once 47 text) (λ x e. tt)) (λ parts u.
    some_then (λ a. a < 2 ^ 32) AreInRange (quad_of parts.0) _ (quad_holds q parts.0) (λ addr h.
    some_mapped (λ n. n ≤ 32) AreInRange (dec_of parts.1 32) _ (dec_holds parts.1 32) (λ len k. (h, k))))

abbrev pub IsSoundRead : Address → Type 0
IsSoundRead own = is_sound_address own ≡ true

sound_parts : (addr len : ℕ) → addr < 2 ^ 32 → len ≤ 32 → nat_eq len 0 ≡ false → (nat_le 1 len && nat_le len 32 && nat_lt addr (2 ^ 32)) ≡ true
sound_parts addr len h k e =
    let some : len ≡ 0 → ⊥ = eqb-false len 0 e in
    let least : 1 ≤ len = omega arith in
    and_from (nat_le 1 len && nat_le len 32) (nat_lt addr (2 ^ 32)) (and_from (nat_le 1 len) (nat_le len 32) (le-leb 1 len least) (le-leb len 32 k)) (lt-ltb addr (2 ^ 32) h)

pub address_holds : QuadsAreDotted → (text : List ℕ) → IfOk (address_of text) IsSoundRead
address_holds q text =
    ok_or_holds IsSoundRead _ Syntax
    (some_then AreInRange IsSoundRead (address_and_len text) _ (address_and_len_holds q text) (λ parts h.
    either_some IsSoundRead (nat_eq parts.1 0) None _ (λ e. tt) (λ e. sound_parts parts.0 parts.1 h.0 h.1 e)))

-- what is read of a network
pub record IsReadNet (net : Prefix) : Type 0 where
  pub len_in : net.len ≤ 32
  pub addr_in : net.addr < 2 ^ 32
  pub cleared : nat_eq (net.addr % 2 ^ (32 - net.len)) 0 ≡ true

cleared_by : (a m : ℕ) → (a - a % m) % m ≡ 0
cleared_by a m =
    let whole : m * (a / m) + a % m ≡ a = div-add-mod a m in
    let front : a - a % m ≡ m * (a / m) = omega arith in
    ap (λ n. n % m) front ∙ mul-mod_right m (a / m)

pub net_holds : QuadsAreDotted → (text : List ℕ) → IfOk (net_of text) IsReadNet
net_holds q text =
    ok_or_holds IsReadNet _ Syntax
    (some_mapped AreInRange IsReadNet (address_and_len text) _ (address_and_len_holds q text) (λ parts h. record {
      len_in = h.1;
      addr_in = omega (arith, h.0);
      cleared = eq-eqb _ 0 (cleared_by parts.0 (2 ^ (32 - parts.1)));
    }))
