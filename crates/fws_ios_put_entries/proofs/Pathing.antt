-- What paths ask of packets.
use Rattle.std.proofs.Common.{◌≡◌, ℕ, ◌-◌, ◌/◌, ◌^◌, ◌<◌, Bool, true, false, ◌&&◌, ◌||◌, Option, Some, None, List, [], ◌∷◌, inl, inr, refl, sym, ◌∙◌, ap, subst, arith}
use Rattle.std.proofs.lemmas.Bool.{and_parts, cases_Bool, eq-eqb, eqb-true, false≢true}
use Rattle.std.proofs.lemmas.List.Elements.{All-head, All-tail}
use Rattle.std.specs.List.{list_any}
use Rattle.std.specs.Option.{option_map_or}
use Rattle.std.specs.Prelude.{nat_eq, is_some, map, All}
use Rattle.fws_num.specs.declared.prefix.Prefix.{Prefix}
use Rattle.fws_iv.specs.declared.iv.Iv.{Iv}
use Rattle.fws_iv.specs.Ivs.{in_part}
use Rattle.fws_iv.specs.Prefixes.{prefix_has, IsBlock}
use Rattle.fws_net.specs.declared.packet.Packet.{Packet}
use Rattle.fws_net.specs.Fates.{has_ports}
use Rattle.fws_ios_put_entries.specs.declared.path.Path.{Path}
use Rattle.fws_ios_put_entries.specs.Narrowing.{takes_protocol, under}
use Rattle.fws_ios_put_entries.specs.Paths.{net_has, path_has, port_has, proto_has, some_path_has, type_has}

pub and_true : (a : Bool) → (a && true) ≡ a
and_true true = refl
and_true false = refl

pub and_false : (a : Bool) → (a && false) ≡ false
and_false true = refl
and_false false = refl

-- a test that is asked for in place of one that it tells
narrow_by : (x y : Bool) (within : Bool → Bool) → within false ≡ false → (y ≡ true → x ≡ true) → within y ≡ (within x && y)
narrow_by x true within z h = ap within (sym (h refl)) ∙ sym (and_true (within x))
narrow_by x false within z h = z ∙ sym (and_false (within x))

-- nothing is asked where there is nothing
pub none_of : {X : Type 0} → (o : Option X) → is_some o ≡ false → o ≡ None
none_of None h = refl
none_of (Some x) h = absurd (false≢true (sym h))

-- a field of which nothing is asked
pub free_has : {X : Type 0} → (o : Option X) (f : X → Bool) → is_some o ≡ false → option_map_or f o true ≡ true
free_has None f h = refl
free_has (Some x) f h = absurd (false≢true (sym h))

-- One thing more

pub on_proto : (path : Path) (n : ℕ) (p : Packet) → (nat_eq n p.proto ≡ true → proto_has path.proto p ≡ true)
    → path_has (record path { proto = Some n }) p ≡ (path_has path p && nat_eq n p.proto)
on_proto path n p h =
    narrow_by (proto_has path.proto p) (nat_eq n p.proto)
    (λ b. ((((b && net_has path.src p.src) && port_has path.sport p p.sport) && net_has path.dst p.dst) && port_has path.dport p p.dport) && type_has path.icmp p) refl h

pub on_src : (path : Path) (net : Prefix) (p : Packet) → (prefix_has net p.src ≡ true → net_has path.src p.src ≡ true)
    → path_has (record path { src = Some net }) p ≡ (path_has path p && prefix_has net p.src)
on_src path net p h =
    narrow_by (net_has path.src p.src) (prefix_has net p.src)
    (λ b. ((((proto_has path.proto p && b) && port_has path.sport p p.sport) && net_has path.dst p.dst) && port_has path.dport p p.dport) && type_has path.icmp p)
    (ap (λ c. (((c && port_has path.sport p p.sport) && net_has path.dst p.dst) && port_has path.dport p p.dport) && type_has path.icmp p) (and_false (proto_has path.proto p))) h

pub on_sport : (path : Path) (range : Iv) (p : Packet) → ((has_ports p.proto && in_part range p.sport) ≡ true → port_has path.sport p p.sport ≡ true)
    → path_has (record path { sport = Some range }) p ≡ (path_has path p && (has_ports p.proto && in_part range p.sport))
on_sport path range p h =
    narrow_by (port_has path.sport p p.sport) (has_ports p.proto && in_part range p.sport)
    (λ b. ((((proto_has path.proto p && net_has path.src p.src) && b) && net_has path.dst p.dst) && port_has path.dport p p.dport) && type_has path.icmp p)
    (ap (λ c. ((c && net_has path.dst p.dst) && port_has path.dport p p.dport) && type_has path.icmp p) (and_false (proto_has path.proto p && net_has path.src p.src))) h

pub on_dst : (path : Path) (net : Prefix) (p : Packet) → (prefix_has net p.dst ≡ true → net_has path.dst p.dst ≡ true)
    → path_has (record path { dst = Some net }) p ≡ (path_has path p && prefix_has net p.dst)
on_dst path net p h =
    narrow_by (net_has path.dst p.dst) (prefix_has net p.dst)
    (λ b. ((((proto_has path.proto p && net_has path.src p.src) && port_has path.sport p p.sport) && b) && port_has path.dport p p.dport) && type_has path.icmp p)
    (ap (λ c. (c && port_has path.dport p p.dport) && type_has path.icmp p) (and_false ((proto_has path.proto p && net_has path.src p.src) && port_has path.sport p p.sport))) h

pub on_dport : (path : Path) (range : Iv) (p : Packet) → ((has_ports p.proto && in_part range p.dport) ≡ true → port_has path.dport p p.dport ≡ true)
    → path_has (record path { dport = Some range }) p ≡ (path_has path p && (has_ports p.proto && in_part range p.dport))
on_dport path range p h =
    narrow_by (port_has path.dport p p.dport) (has_ports p.proto && in_part range p.dport)
    (λ b. ((((proto_has path.proto p && net_has path.src p.src) && port_has path.sport p p.sport) && net_has path.dst p.dst) && b) && type_has path.icmp p)
    (ap (λ c. c && type_has path.icmp p) (and_false (((proto_has path.proto p && net_has path.src p.src) && port_has path.sport p p.sport) && net_has path.dst p.dst))) h

pub on_icmp : (path : Path) (n : ℕ) (p : Packet) → ((nat_eq p.proto 1 && nat_eq n p.icmp) ≡ true → type_has path.icmp p ≡ true)
    → path_has (record path { icmp = Some n }) p ≡ (path_has path p && (nat_eq p.proto 1 && nat_eq n p.icmp))
on_icmp path n p h =
    narrow_by (type_has path.icmp p) (nat_eq p.proto 1 && nat_eq n p.icmp)
    (λ b. ((((proto_has path.proto p && net_has path.src p.src) && port_has path.sport p p.sport) && net_has path.dst p.dst) && port_has path.dport p p.dport) && b)
    (and_false ((((proto_has path.proto p && net_has path.src p.src) && port_has path.sport p p.sport) && net_has path.dst p.dst) && port_has path.dport p p.dport)) h

-- Protocols

-- a packet on a path has what is asked of its protocol
path_proto : (path : Path) (p : Packet) → path_has path p ≡ true → proto_has path.proto p ≡ true
path_proto path p h =
    let a = and_parts ((((proto_has path.proto p && net_has path.src p.src) && port_has path.sport p p.sport) && net_has path.dst p.dst) && port_has path.dport p p.dport) (type_has path.icmp p) h in
    let b = and_parts (((proto_has path.proto p && net_has path.src p.src) && port_has path.sport p p.sport) && net_has path.dst p.dst) (port_has path.dport p p.dport) a.0 in
    let c = and_parts ((proto_has path.proto p && net_has path.src p.src) && port_has path.sport p p.sport) (net_has path.dst p.dst) b.0 in
    let d = and_parts (proto_has path.proto p && net_has path.src p.src) (port_has path.sport p p.sport) c.0 in
    (and_parts (proto_has path.proto p) (net_has path.src p.src) d.0).0

-- packets of a protocol that a path takes are those on the path under it
pub taken_has : (v : ℕ) (path : Path) (p : Packet) → takes_protocol path v ≡ true → path_has (under v path) p ≡ (path_has path p && nat_eq v p.proto)
taken_has v path p y = on_proto path v p (λ e. subst (λ w. takes_protocol path w ≡ true) (eqb-true v p.proto e) y)

-- a path that isn't one of packets of the protocol
pub not_taken : (v : ℕ) (path : Path) (p : Packet) → takes_protocol path v ≡ false → (path_has path p && nat_eq v p.proto) ≡ false
not_taken v path p n = elim (cases_Bool (path_has path p && nat_eq v p.proto)) [
  | inl y ↦ (let parts = and_parts (path_has path p) (nat_eq v p.proto) y in
      absurd (false≢true (sym n ∙ subst (λ w. takes_protocol path w ≡ true) (sym (eqb-true v p.proto parts.1)) (path_proto path p parts.0))))
  | inr z ↦ z
]

-- Many paths

shared_front : (P a b : Bool) → ((P && a) || (P && b)) ≡ (P && (a || b))
shared_front true a b = refl
shared_front false a b = refl

-- the paths that ask for one thing each
pub paths_have : {A : Type 0} → (f : A → Path) (hit : A → Bool) (path : Path) (p : Packet) (xs : List A) → All (λ a. path_has (f a) p ≡ (path_has path p && hit a)) xs
    → some_path_has (map f xs) p ≡ (path_has path p && list_any hit xs)
paths_have f hit path p [] h = sym (and_false (path_has path p))
paths_have f hit path p (a ∷ xs) h =
    ap (λ b. b || some_path_has (map f xs) p) (All-head (λ a. path_has (f a) p ≡ (path_has path p && hit a)) a xs h)
    ∙ ap (λ b. (path_has path p && hit a) || b) (paths_have f hit path p xs (All-tail (λ a. path_has (f a) p ≡ (path_has path p && hit a)) a xs h))
    ∙ shared_front (path_has path p) (hit a) (list_any hit xs)

-- a test that does not depend on the item is made once
pub any_front : {A : Type 0} → (b : Bool) (f : A → Bool) (xs : List A) → list_any (λ a. b && f a) xs ≡ (b && list_any f xs)
any_front true f xs = refl
any_front false f [] = refl
any_front false f (a ∷ xs) = any_front false f xs

-- All addresses

pub everywhere : (net : Prefix) (a : ℕ) → IsBlock net → nat_eq net.len 0 ≡ true → a < 2 ^ 32 → prefix_has net a ≡ true
everywhere net a block zero low =
    let len : net.len ≡ 0 = eqb-true net.len 0 zero in
    let fits = block.fits in
    subst (λ n. nat_eq (net.addr / 2 ^ (32 - n)) (a / 2 ^ (32 - n)) ≡ true) (sym len)
    (eq-eqb (net.addr / 2 ^ 32) (a / 2 ^ 32) (same net.addr a fits low))
  where
    same : (x y : ℕ) → x < 2 ^ 32 → y < 2 ^ 32 → x / 2 ^ 32 ≡ y / 2 ^ 32
    same x y l k = omega (arith, l, k)
