-- The instances of a policy, and what they make of packets.
use Rattle.std.proofs.Common.{◌≡◌, ℕ, zero, suc, ◌+◌, ◌<◌, Bool, true, false, cond, ◌&&◌, nat_eq, slice_get, get_or, Option, Some, None, List, [], ◌∷◌, ◌++◌, length, map, All, arith, refl, sym, ap, ◌∙◌, subst}
use Rattle.std.proofs.lemmas.Bool.{false≢true, ne_eqb, eq-eqb, and_from}
use Rattle.std.proofs.lemmas.List.Elements.{All-head, All-tail, All-map, All-weaker, filter_passes}
use Rattle.std.specs.List.{Contains, filter, find}
use Rattle.std.specs.Option.{option_eq}
use Rattle.fws_net.specs.declared.connection.Kind.TheVariants.{New}
use Rattle.fws_net.specs.declared.outcome.End.{End}
use Rattle.fws_net.specs.declared.packet.Packet.{Packet}
use Rattle.fws_net.specs.Ends.{host_end}
use Rattle.fws_net.specs.Transits.{with_dst, with_src}
use Rattle.fws_tree.specs.OutcomeEquality.{end_exact, end_same}
use Rattle.fws_ipfw.specs.declared.config.IpfwNat.{IpfwNat}
use Rattle.fws_ipfw.specs.declared.config.Redirect.{Redirect}
use Rattle.fws_ipfw.specs.declared.pass.Pass.{Pass}
use Rattle.fws_ipfw.specs.Walk.{goes_to_addr, goes_to_port, nat_numbered, or_else, redirect_in, translated}
use Rattle.fws_place.specs.declared.redirect.Redirect.{Redirect as Shown}
use Rattle.fws_place.specs.Counts.{public_service, redirect_of}
use Rattle.fws_ipfw_put.specs.Instances.{destination_nats, redirect_for, redirects_to, source_nats}
use Rattle.fws_ipfw_put.specs.Laid.{nats_for}
use Rattle.fws_ipfw_put.specs.Layout.{destination_instance, same_end, source_instance}

pub some_is : {X : Type 0} {x y : X} → Some x ≡ Some y → x ≡ y
some_is h = cc

pub none_is : {X : Type 0} {x : X} → None ≡ Some x → ⊥
none_is h = cc

-- Ends

-- a whole address without a port
pub is_whole_end : (e : End) → e.len ≡ 32 → e.port ≡ None → host_end e.addr None ≡ e
is_whole_end e whole bare = end_same (host_end e.addr None) e refl (sym whole) (sym bare)

pub end_itself : (e : End) → same_end e e ≡ true
end_itself e =
    and_from (nat_eq e.addr e.addr) (nat_eq e.len e.len && option_eq nat_eq e.port e.port) (eq-eqb e.addr e.addr refl)
    (and_from (nat_eq e.len e.len) (option_eq nat_eq e.port e.port) (eq-eqb e.len e.len refl) (port_itself e.port)) where
      port_itself : (port : Option ℕ) → option_eq nat_eq port port ≡ true
      port_itself None = refl
      port_itself (Some n) = eq-eqb n n refl

-- Instances by their numbers

abbrev pub destination_nat : List Shown → ℕ → End → IpfwNat
destination_nat rs at e = record { number = destination_instance at; alias = e.addr; redirects = redirects_to e rs }

abbrev pub source_nat : ℕ → ℕ → End → IpfwNat
source_nat d at e = record { number = source_instance d at; alias = e.addr; redirects = [] }

module _ (rs : List Shown) where
  dst_found : (ends : List End) (i k at : ℕ) (e : End) (more : List IpfwNat) → slice_get ends k ≡ Some e → at ≡ i + k
      → nat_numbered (destination_instance at) (destination_nats rs i ends ++ more) ≡ Some (destination_nat rs at e)
  dst_found [] i k at e more there same = absurd (none_is there)
  dst_found (x ∷ ends) i zero at e more there same =
      let at_is : i ≡ at = omega (arith, same) in
      subst (λ n. nat_numbered (destination_instance n) (destination_nats rs i (x ∷ ends) ++ more) ≡ Some (destination_nat rs n e)) at_is
      (rw (eq-eqb (i + 1) (i + 1) refl) (ap (λ y. Some (destination_nat rs i y)) (some_is there)))
  dst_found (x ∷ ends) i (suc k) at e more there same =
      rw (ne_eqb (i + 1) (at + 1) (λ is. omega (arith, is, same))) (dst_found ends (i + 1) k at e more there (omega (arith, same)))

  dst_passed : (ends : List End) (i n : ℕ) (more : List IpfwNat) → i + length ends < n → nat_numbered n (destination_nats rs i ends ++ more) ≡ nat_numbered n more
  dst_passed [] i n more low = refl
  dst_passed (x ∷ ends) i n more low =
      rw (ne_eqb (i + 1) n (λ is. omega (arith, is, low))) (dst_passed ends (i + 1) n more (omega (arith, low)))

src_found : (d : ℕ) (ends : List End) (j k at : ℕ) (e : End) → slice_get ends k ≡ Some e → at ≡ j + k → nat_numbered (source_instance d at) (source_nats d j ends) ≡ Some (source_nat d at e)
src_found d [] j k at e there same = absurd (none_is there)
src_found d (x ∷ ends) j zero at e there same =
    let at_is : j ≡ at = omega (arith, same) in
    subst (λ n. nat_numbered (source_instance d n) (source_nats d j (x ∷ ends)) ≡ Some (source_nat d n e)) at_is
    (rw (eq-eqb (d + j + 1) (d + j + 1) refl) (ap (λ y. Some (source_nat d j y)) (some_is there)))
src_found d (x ∷ ends) j (suc k) at e there same =
    rw (ne_eqb (d + j + 1) (d + at + 1) (λ is. omega (arith, is, same))) (src_found d ends (j + 1) k at e there (omega (arith, same)))

pub destination_found : (rs : List Shown) (ds ss : List End) (i : ℕ) (e : End) → slice_get ds i ≡ Some e
    → nat_numbered (destination_instance i) (nats_for rs ds ss) ≡ Some (destination_nat rs i e)
destination_found rs ds ss i e there = dst_found rs ds 0 i i e (source_nats (length ds) 0 ss) there (omega arith)

pub source_found : (rs : List Shown) (ds ss : List End) (j : ℕ) (e : End) → slice_get ss j ≡ Some e
    → nat_numbered (source_instance (length ds) j) (nats_for rs ds ss) ≡ Some (source_nat (length ds) j e)
source_found rs ds ss j e there =
    dst_passed rs ds 0 (source_instance (length ds) j) (source_nats (length ds) 0 ss) (omega arith)
    ∙ src_found (length ds) ss 0 j j e there (omega arith)

-- Redirects

-- an item that passes a test is found, and what is found is such as all are
abbrev Found : {X : Type 0} → (X → Type 0) → (X → Bool) → List X → Type 0
Found {X} P test xs = (y : X) × (find test xs ≡ Some y) × P y

found_step : {X : Type 0} (P : X → Type 0) (test : X → Bool) (y : X) (xs : List X) (x : X) → P y → ((k : ℕ) → slice_get xs k ≡ Some x → Found P test xs) → test x ≡ true
    → (k : ℕ) → slice_get (y ∷ xs) k ≡ Some x → (b : Bool) → test y ≡ b → Found P test (y ∷ xs)
found_step P test y xs x such later passes k is true here = (y, ap (λ b. cond b (Some y) (find test xs)) here, such)
found_step P test y xs x such later passes zero is false here = absurd (false≢true (sym here ∙ ap test (some_is is) ∙ passes))
found_step P test y xs x such later passes (suc k) is false here =
    let more = later k is in
    (more.0, ap (λ b. cond b (Some y) (find test xs)) here ∙ more.1, more.2)

found : {X : Type 0} (P : X → Type 0) (test : X → Bool) (xs : List X) (k : ℕ) (x : X) → All P xs → slice_get xs k ≡ Some x → test x ≡ true → Found P test xs
found P test [] k x all is passes = absurd (none_is is)
found P test (y ∷ xs) k x all is passes =
    found_step P test y xs x (All-head P y xs all) (λ j at. found P test xs j x (All-tail P y xs all) at passes) passes k is (test y) refl

such_step : {X : Type 0} (P : X → Type 0) (test : X → Bool) (y : X) (xs : List X) (x : X) → P y → (find test xs ≡ Some x → P x) → (b : Bool) → cond b (Some y) (find test xs) ≡ Some x → P x
such_step P test y xs x such later true is = subst P (some_is is) such
such_step P test y xs x such later false is = later is

found_such : {X : Type 0} (P : X → Type 0) (test : X → Bool) (xs : List X) (x : X) → All P xs → find test xs ≡ Some x → P x
found_such P test [] x all is = absurd (none_is is)
found_such P test (y ∷ xs) x all is =
    such_step P test y xs x (All-head P y xs all) (found_such P test xs x (All-tail P y xs all)) (test y) is

-- the redirects to an end have it as their inner end
pub all_to : (e : End) (rs : List Shown) → All (λ (r : Redirect). r.local ≡ e) (redirects_to e rs)
all_to e rs =
    All-map (λ (r : Redirect). r.local ≡ e) redirect_for (filter (λ (r : Shown). same_end e r.local) rs)
    (All-weaker (λ (r : Shown). same_end e r.local ≡ true) (λ (r : Shown). r.local ≡ e) (λ r same. sym (end_exact e r.local same))
    (filter (λ (r : Shown). same_end e r.local) rs) (filter_passes (λ (r : Shown). same_end e r.local) rs))

got_of : {X : Type 0} (xs : List X) (k : ℕ) (d : X) → k < length xs → slice_get xs k ≡ Some (get_or xs k d)
got_of [] k d low = absurd (omega (arith, low))
got_of (x ∷ xs) zero d low = refl
got_of (x ∷ xs) (suc k) d low = got_of xs k d (omega (arith, low))

-- and each of these is among them
abbrev Has : End → List Shown → Shown → Type 0
Has e rs r = (j : ℕ) × (slice_get (redirects_to e rs) j ≡ Some (redirect_for r))

has_step : (e : End) (x : Shown) (rs : List Shown) (r : Shown) → same_end e r.local ≡ true → ((k : ℕ) → slice_get rs k ≡ Some r → Has e rs r)
    → (k : ℕ) → slice_get (x ∷ rs) k ≡ Some r → (b : Bool) → same_end e x.local ≡ b
    → (j : ℕ) × (slice_get (map redirect_for (cond b (x ∷ filter (λ (y : Shown). same_end e y.local) rs) (filter (λ (y : Shown). same_end e y.local) rs))) j ≡ Some (redirect_for r))
has_step e x rs r same later zero is true here = (0, ap (λ y. Some (redirect_for y)) (some_is is))
has_step e x rs r same later zero is false here = absurd (false≢true (sym here ∙ ap (λ (y : Shown). same_end e y.local) (some_is is) ∙ same))
has_step e x rs r same later (suc k) is true here = let more = later k is in (suc more.0, more.1)
has_step e x rs r same later (suc k) is false here = later k is

to_has : (e : End) (rs : List Shown) (k : ℕ) (r : Shown) → slice_get rs k ≡ Some r → same_end e r.local ≡ true → Has e rs r
to_has e [] k r is same = absurd (none_is is)
to_has e (x ∷ rs) k r is same = has_step e x rs r same (λ j at. to_has e rs j r at same) k is (same_end e x.local) refl

-- the redirect of a packet for which one is shown leads to the end
pub redirected : (e : End) (rs : List Shown) (p : Packet) → Contains rs (redirect_of e p) → (r : Redirect) × (redirect_in (redirects_to e rs) p ≡ Some r) × (r.local ≡ e)
redirected e rs p has =
    let at = got_of rs has.0 (redirect_of e p) has.1 ∙ ap Some has.2 in
    let there = to_has e rs has.0 (redirect_of e p) at (end_itself e) in
    by_port e.port refl there.0 there.1 where
      P : Redirect → Type 0
      P r = r.local ≡ e

      shown_as : Option ℕ → Shown
      shown_as port = record { local = e; public = record { addr = p.dst; service = public_service port p } }

      by_port : (port : Option ℕ) → e.port ≡ port → (j : ℕ) → slice_get (redirects_to e rs) j ≡ Some (redirect_for (redirect_of e p))
          → (r : Redirect) × (redirect_in (redirects_to e rs) p ≡ Some r) × (r.local ≡ e)
      by_port None bare j there =
          let here : slice_get (redirects_to e rs) j ≡ Some (redirect_for (record { local = e; public = record { addr = p.dst; service = public_service None p } }))
          = there ∙ ap (λ port. Some (redirect_for (record { local = e; public = record { addr = p.dst; service = public_service port p } }))) bare in
          let of_addr = found (λ (r : Redirect). r.local ≡ e) (goes_to_addr p) (redirects_to e rs) j _ (all_to e rs) here
          (and_from (nat_eq p.dst p.dst) true (eq-eqb p.dst p.dst refl) refl) in
          by_first (find (goes_to_port p) (redirects_to e rs)) refl of_addr.0 of_addr.1 of_addr.2 where
            by_first : (o : Option Redirect) → find (goes_to_port p) (redirects_to e rs) ≡ o → (a : Redirect) → find (goes_to_addr p) (redirects_to e rs) ≡ Some a → a.local ≡ e
                → (r : Redirect) × (redirect_in (redirects_to e rs) p ≡ Some r) × (r.local ≡ e)
            by_first None first a second such =
                (a, ap (λ o. or_else o (find (goes_to_addr p) (redirects_to e rs))) first ∙ second, such)
            by_first (Some r) first a second such = (
              r,
              ap (λ o. or_else o (find (goes_to_addr p) (redirects_to e rs))) first,
              found_such (λ (r : Redirect). r.local ≡ e) (goes_to_port p) (redirects_to e rs) r (all_to e rs) first,
            )
      by_port (Some port) with_port j there =
          let here : slice_get (redirects_to e rs) j ≡ Some (redirect_for (record { local = e; public = record { addr = p.dst; service = public_service (Some port) p } }))
          = there ∙ ap (λ port. Some (redirect_for (record { local = e; public = record { addr = p.dst; service = public_service port p } }))) with_port in
          let of_port = found (λ (r : Redirect). r.local ≡ e) (goes_to_port p) (redirects_to e rs) j _ (all_to e rs) here
          (and_from (nat_eq p.proto p.proto) (nat_eq p.dst p.dst && nat_eq p.dport p.dport) (eq-eqb p.proto p.proto refl)
          (and_from (nat_eq p.dst p.dst) (nat_eq p.dport p.dport) (eq-eqb p.dst p.dst refl) (eq-eqb p.dport p.dport refl))) in
          (of_port.0, ap (λ o. or_else o (find (goes_to_addr p) (redirects_to e rs))) of_port.1, of_port.2)

-- Translations

-- a new packet that comes in gets its destination
pub dst_written : (rs : List Shown) (ds ss : List End) (i : ℕ) (e : End) (p : Packet) (m : Pass) → slice_get ds i ≡ Some e → Contains rs (redirect_of e p)
    → m.translated ≡ false → m.transit.packet ≡ p
    → (translated p New false (nat_numbered (destination_instance i) (nats_for rs ds ss)) m).transit ≡ with_dst p e m.transit
dst_written rs ds ss i e p m there has fresh same =
    let r = redirected e rs p has in
    ap (λ nat. (translated p New false nat m).transit) (destination_found rs ds ss i e there)
    ∙ rw fresh (rw same (rw r.1 (ap (λ end. with_dst p end m.transit) r.2)))

-- a new packet that goes out gets its source
pub src_written : (rs : List Shown) (ds ss : List End) (j : ℕ) (e : End) (p : Packet) (m : Pass) → slice_get ss j ≡ Some e → e.len ≡ 32 → e.port ≡ None → m.translated ≡ false
    → (translated p New true (nat_numbered (source_instance (length ds) j) (nats_for rs ds ss)) m).transit ≡ with_src p e m.transit
src_written rs ds ss j e p m there whole bare fresh =
    ap (λ nat. (translated p New true nat m).transit) (source_found rs ds ss j e there)
    ∙ rw fresh (ap (λ end. with_src p end m.transit) (is_whole_end e whole bare))
