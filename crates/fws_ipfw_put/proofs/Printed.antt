-- The configuration of a policy can be printed, and keeps state.
use Rattle.std.proofs.Common.{◌≡◌, ◌≢◌, inl, inr, ℕ, suc, ◌+◌, ◌-◌, ◌^◌, ◌<◌, ◌≤◌, Bool, true, false, cond, ◌&&◌, ◌||◌, not, nat_eq, nat_le, nat_lt, slice_get, slice_index_or, Option, Some, None, IfSome, is_none, unwrap_or, List, [], ◌∷◌, ◌++◌, length, All, arith, refl, sym, ap, ◌∙◌, subst}
use Rattle.std.proofs.lemmas.Bool.{ne_eqb, eq-eqb, and_from, and_parts, le-leb, lt-ltb}
use Rattle.std.proofs.lemmas.List.Elements.{All-cons, All-filter, All-head, All-nil, All-tail}
use Rattle.std.proofs.lemmas.List.Folds.{list_all-append, list_all-map}
use Rattle.std.proofs.lemmas.List.Sums.{list_all-from_AllPass}
use Rattle.std.specs.List.{filter, list_all}
use Rattle.std.specs.Option.{option_map}
use Rattle.fws_net.specs.declared.outcome.End.{End}
use Rattle.fws_net.specs.declared.outcome.Outcome.{Outcome}
use Rattle.fws_net.specs.declared.outcome.Outcome.TheVariants.{Drop, Accept}
use Rattle.fws_net.specs.declared.outcome.Rewrite.{Rewrite}
use Rattle.fws_net.specs.declared.packet.Packet.{Packet}
use Rattle.fws_net.specs.declared.site.Site.{Site}
use Rattle.fws_net.specs.Fates.{has_ports}
use Rattle.fws_tree.specs.declared.tables.Tables.{Tables}
use Rattle.fws_tree.specs.Plain.{Plain, value}
use Rattle.fws_tree.specs.Regular.{AreRegular}
use Rattle.fws_ipfw.specs.declared.config.IpfwConfig.{IpfwConfig}
use Rattle.fws_ipfw.specs.declared.config.IpfwNat.{IpfwNat}
use Rattle.fws_ipfw.specs.declared.config.IpfwRule.{IpfwRule}
use Rattle.fws_ipfw.specs.FileText.{has_nat}
use Rattle.fws_ipfw.specs.RuleText.{allows, has_ports as have_ports}
use Rattle.fws_ipfw.specs.Soundness.{are_apart, are_ordered}
use Rattle.fws_ipfw.specs.Walk.{nat_numbered}
use Rattle.fws_ipfw_print.specs.Printable.{all_redirects, is_port, is_printable, is_printed_nat, is_printed_redirect, is_printed_rule, is_whole}
use Rattle.fws_ipfw_put_rules.specs.Lists.{is_plain}
use Rattle.fws_place.specs.declared.redirect.Redirect.{Redirect as Shown}
use Rattle.fws_place.specs.Counts.{IsShown, new_rows, public_service, redirect_of}
use Rattle.fws_place.specs.Meaning.{new_of, no_ends, point_of}
use Rattle.fws_ipfw_put.specs.Ends.{FitsEnd, FitsPort}
use Rattle.fws_ipfw_put.specs.Guards.{IsGuard}
use Rattle.fws_ipfw_put.specs.Instances.{destination_nats, redirect_for, redirects_to, source_nats}
use Rattle.fws_ipfw_put.specs.Laid.{nats_for}
use Rattle.fws_ipfw_put.specs.Layout.{destination_rules, leaving_rules, lookup_rules, same_end, source_rules}
use Rattle.fws_ipfw_put.specs.Placed.{tracks}
use Rattle.fws_ipfw_put.proofs.Counted.{ends_name, named_both, plain_names_none}
use Rattle.fws_ipfw_put.proofs.Kept.{Clauses, destination_whole}
use Rattle.fws_ipfw_put.proofs.Nats.{destination_found, none_is, some_is, source_found}
use Rattle.fws_ipfw_put.proofs.Ordered.{ordered}
use Rattle.fws_ipfw_put.proofs.Plan.{Plan, for_ends, for_sent, for_sources, grouped, rest}

all_joined : {X : Type 0} (p : X → Bool) (xs ys : List X) → list_all p xs ≡ true → list_all p ys ≡ true → list_all p (xs ++ ys) ≡ true
all_joined p xs ys first second = list_all-append p xs ys ∙ and_from (list_all p xs) (list_all p ys) first second

-- Numbers of instances

abbrev Over : ℕ → List IpfwNat → Type 0
Over n nats = All (λ (nat : IpfwNat). n < nat.number) nats

no_nat : (n : ℕ) (nats : List IpfwNat) → Over n nats → has_nat nats n ≡ false
no_nat n [] all = refl
no_nat n (x ∷ nats) all =
    let high = All-head (λ (nat : IpfwNat). n < nat.number) x nats all in
    rw (ne_eqb x.number n (λ is. omega (arith, is, high))) (no_nat n nats (All-tail (λ (nat : IpfwNat). n < nat.number) x nats all))

src_over : (d j n : ℕ) (ends : List End) → n ≤ d + j → Over n (source_nats d j ends)
src_over d j n [] low = All-nil (λ (nat : IpfwNat). n < nat.number)
src_over d j n (e ∷ ends) low =
    All-cons (λ (nat : IpfwNat). n < nat.number) (record { number = d + j + 1; alias = e.addr; redirects = [] }) (source_nats d (j + 1) ends) (omega (arith, low))
    (src_over d (j + 1) n ends (omega (arith, low)))

dst_over : (rs : List Shown) (i n : ℕ) (ends : List End) (more : List IpfwNat) → n ≤ i → Over n more → Over n (destination_nats rs i ends ++ more)
dst_over rs i n [] more low high = high
dst_over rs i n (e ∷ ends) more low high =
    All-cons (λ (nat : IpfwNat). n < nat.number) (record { number = i + 1; alias = e.addr; redirects = redirects_to e rs }) (destination_nats rs (i + 1) ends ++ more) (omega (arith, low))
    (dst_over rs (i + 1) n ends more (omega (arith, low)) high)

src_apart : (d j : ℕ) (ends : List End) → are_apart (source_nats d j ends) ≡ true
src_apart d j [] = refl
src_apart d j (e ∷ ends) =
    and_from (not (has_nat (source_nats d (j + 1) ends) (d + j + 1))) (are_apart (source_nats d (j + 1) ends))
    (ap not (no_nat (d + j + 1) (source_nats d (j + 1) ends) (src_over d (j + 1) (d + j + 1) ends (omega arith)))) (src_apart d (j + 1) ends)

dst_apart : (rs : List Shown) (i d : ℕ) (ends ss : List End) → i + length ends ≤ d → are_apart (destination_nats rs i ends ++ source_nats d 0 ss) ≡ true
dst_apart rs i d [] ss low = src_apart d 0 ss
dst_apart rs i d (e ∷ ends) ss low =
    let later = destination_nats rs (i + 1) ends ++ source_nats d 0 ss in
    and_from (not (has_nat later (i + 1))) (are_apart later)
    (ap not (no_nat (i + 1) later (dst_over rs (i + 1) (i + 1) ends (source_nats d 0 ss) (omega arith) (src_over d 0 (i + 1) ss (omega (arith, low))))))
    (dst_apart rs (i + 1) d ends ss (omega (arith, low)))

has_found : (n : ℕ) (nats : List IpfwNat) (nat : IpfwNat) → nat_numbered n nats ≡ Some nat → has_nat nats n ≡ true
has_found n [] nat is = absurd (none_is is)
has_found n (x ∷ nats) nat is = by_test (nat_eq x.number n) is (has_found n nats nat) where
  by_test : (b : Bool) → cond b (Some x) (nat_numbered n nats) ≡ Some nat → (nat_numbered n nats ≡ Some nat → has_nat nats n ≡ true) → (b || has_nat nats n) ≡ true
  by_test true is later = refl
  by_test false is later = later is

-- Redirects

ports_printed : (q : Packet) → q.dport ≤ 65535 → (port : Option ℕ) → ((n : ℕ) → port ≡ Some n → (has_ports q.proto ≡ true) × (n ≤ 65535))
    → ((have_ports (option_map (λ s. s.0) (public_service port q)) && is_port port && is_port (option_map (λ s. s.1) (public_service port q)))
    || (is_none (option_map (λ s. s.0) (public_service port q)) && is_none port && is_none (option_map (λ s. s.1) (public_service port q)))) ≡ true
ports_printed q low None known = refl
ports_printed q low (Some n) known =
    let k = known n refl in
    rw (k.0, le-leb n 65535 k.1, le-leb q.dport 65535 low) refl

redirect_printed : (e : End) (q : Packet) → q.dport ≤ 65535 → q.dst < 2 ^ 32 → q.dst ≢ 0 → e.len ≡ 32 → e.addr < 2 ^ 32 → ((n : ℕ) → e.port ≡ Some n → (has_ports q.proto ≡ true) × (n ≤ 65535))
    → is_printed_redirect (redirect_for (redirect_of e q)) ≡ true
redirect_printed e q port_low dst_low somewhere whole low known =
    let r = redirect_for (redirect_of e q) in
    let last = (have_ports r.proto && is_port r.local.port && is_port r.public.port) || (is_none r.proto && is_none r.local.port && is_none r.public.port) in
    and_from (is_whole e && is_whole r.public && not (nat_eq q.dst 0)) last
    (and_from (is_whole e && is_whole r.public) (not (nat_eq q.dst 0))
    (and_from (is_whole e) (is_whole r.public)
    (and_from (nat_eq e.len 32) (nat_lt e.addr (2 ^ 32)) (eq-eqb e.len 32 whole) (lt-ltb e.addr (2 ^ 32) low))
    (lt-ltb q.dst (2 ^ 32) dst_low))
    (ap not (ne_eqb q.dst 0 somewhere)))
    (ports_printed q port_low e.port known)

module _ (site : Site) (tables : Tables) (regular : AreRegular site tables) (met : Clauses site tables) where
  accepted_value : (q : Packet) (w : Rewrite) → new_of tables q ≡ Accept w → value tables.fresh.1 (point_of q no_ends) ≡ Some (Accept w)
  accepted_value q w is = by_value (value tables.fresh.1 (point_of q no_ends)) is where
    by_value : (o : Option Outcome) → unwrap_or o Drop ≡ Accept w → o ≡ Some (Accept w)
    by_value None h = absurd (drop_isnt h) where
      drop_isnt : Drop ≡ Accept w → ⊥
      drop_isnt h = cc
    by_value (Some o) h = ap Some h

  port_of : (e : End) → FitsEnd e → (n : ℕ) → e.port ≡ Some n → n ≤ 65535
  port_of e fits n is = fits_port e.port fits.1 is where
    fits_port : (port : Option ℕ) → FitsPort port → port ≡ Some n → n ≤ 65535
    fits_port None h is = absurd (none_is is)
    fits_port (Some k) h is = subst (λ m. m ≤ 65535) (some_is is) h

  shown_printed : (r : Shown) → IsShown site tables (new_rows tables) r → FitsEnd r.local → r.public.addr ≢ 0 → is_printed_redirect (redirect_for r) ≡ true
  shown_printed r s fits somewhere =
      let q = s.packet in
      let dst_le : q.dst ≤ 2 ^ 32 - 1 = s.of_site.1.1.0 in
      subst (λ (x : Shown). is_printed_redirect (redirect_for x) ≡ true) s.same
      (redirect_printed r.local q s.of_site.1.1.1.0 (omega (arith, dst_le)) (λ none. somewhere (sym (ap (λ (x : Shown). x.public.addr) s.same) ∙ none))
      (destination_whole site tables met q s.of_site s.rewriting s.accepted r.local s.written) fits.0
      (λ n is. (with_ports n is (has_ports q.proto) refl, port_of r.local fits n is))) where
        with_ports : (n : ℕ) → r.local.port ≡ Some n → (b : Bool) → has_ports s.packet.proto ≡ b → b ≡ true
        with_ports n is true here = refl
        with_ports n is false here =
            let plain = regular.fresh_written (point_of s.packet no_ends) s.rewriting s.of_site (accepted_value s.packet s.rewriting s.accepted) here in
            absurd (none_is (sym (subst (λ o. IfSome o (λ (x : End). x.port ≡ None)) s.written plain.1) ∙ is))

  all_shown_printed : (rs : List Shown) → All (IsShown site tables (new_rows tables)) rs → All (λ (r : Shown). FitsEnd r.local) rs → All (λ (r : Shown). r.public.addr ≢ 0) rs
      → All (λ (r : Shown). is_printed_redirect (redirect_for r) ≡ true) rs
  all_shown_printed rs shown fit somewhere = λ k d low. shown_printed (slice_index_or rs k d) (shown k d low) (fit k d low) (somewhere k d low)

to_printed : (e : End) (rs : List Shown) → All (λ (r : Shown). is_printed_redirect (redirect_for r) ≡ true) rs → list_all is_printed_redirect (redirects_to e rs) ≡ true
to_printed e rs all =
    let kept = filter (λ (r : Shown). same_end e r.local) rs in
    list_all-map is_printed_redirect redirect_for kept
    ∙ list_all-from_AllPass (λ (r : Shown). is_printed_redirect (redirect_for r)) kept
    (All-filter (λ (r : Shown). same_end e r.local) (λ (r : Shown). is_printed_redirect (redirect_for r) ≡ true) rs all)

-- Instances

abbrev Aliased : List IpfwNat → Type 0
Aliased nats = All (λ (nat : IpfwNat). nat.alias < 2 ^ 32) nats

nat_printed : (nat : IpfwNat) → 0 < nat.number → nat.number ≤ 65535 → nat.alias < 2 ^ 32 → list_all is_printed_redirect nat.redirects ≡ true → is_printed_nat nat ≡ true
nat_printed nat positive low alias redirects =
    and_from (nat_lt 0 nat.number && nat_le nat.number 65535 && nat_lt nat.alias (2 ^ 32)) (list_all is_printed_redirect nat.redirects)
    (and_from (nat_lt 0 nat.number && nat_le nat.number 65535) (nat_lt nat.alias (2 ^ 32))
    (and_from (nat_lt 0 nat.number) (nat_le nat.number 65535) (lt-ltb 0 nat.number positive) (le-leb nat.number 65535 low)) (lt-ltb nat.alias (2 ^ 32) alias)) redirects

src_printed : (d j : ℕ) (ends : List End) → d + j + length ends ≤ 65535 → Aliased (source_nats d j ends) → list_all is_printed_nat (source_nats d j ends) ≡ true
src_printed d j [] few fit = refl
src_printed d j (e ∷ ends) few fit =
    let nat : IpfwNat = record { number = d + j + 1; alias = e.addr; redirects = [] } in
    let later = source_nats d (j + 1) ends in
    and_from (is_printed_nat nat) (list_all is_printed_nat later)
    (nat_printed nat (omega arith) (omega (arith, few)) (All-head (λ (x : IpfwNat). x.alias < 2 ^ 32) nat later fit) refl)
    (src_printed d (j + 1) ends (omega (arith, few)) (All-tail (λ (x : IpfwNat). x.alias < 2 ^ 32) nat later fit))

dst_printed : (rs : List Shown) (i : ℕ) (ends : List End) (more : List IpfwNat) → i + length ends ≤ 4096 → All (λ (r : Shown). is_printed_redirect (redirect_for r) ≡ true) rs
    → (Aliased more → list_all is_printed_nat more ≡ true) → Aliased (destination_nats rs i ends ++ more) → list_all is_printed_nat (destination_nats rs i ends ++ more) ≡ true
dst_printed rs i [] more few prints others fit = others fit
dst_printed rs i (e ∷ ends) more few prints others fit =
    let nat : IpfwNat = record { number = i + 1; alias = e.addr; redirects = redirects_to e rs } in
    let later = destination_nats rs (i + 1) ends ++ more in
    and_from (is_printed_nat nat) (list_all is_printed_nat later)
    (nat_printed nat (omega arith) (omega (arith, few)) (All-head (λ (x : IpfwNat). x.alias < 2 ^ 32) nat later fit) (to_printed e rs prints))
    (dst_printed rs (i + 1) ends more (omega (arith, few)) prints others (All-tail (λ (x : IpfwNat). x.alias < 2 ^ 32) nat later fit))

-- Rules

module _ (site : Site) (rs : List Shown) (ds ss : List End) where
  abbrev nats : List IpfwNat
  nats = nats_for rs ds ss

  abbrev prints : List IpfwRule → Bool
  prints rules = list_all (is_printed_rule site nats) rules

  destinations_printed : (ends : List End) (i : ℕ) → i + length ends ≤ 4096 → ((k : ℕ) (e : End) → slice_get ends k ≡ Some e → slice_get ds (i + k) ≡ Some e) → prints (destination_rules i ends) ≡ true
  destinations_printed [] i few are = refl
  destinations_printed (e ∷ ends) i few are =
      let zero_is : i + 0 ≡ i = omega arith in
      let has = has_found (i + 1) nats _ (destination_found rs ds ss i e (subst (λ n. slice_get ds n ≡ Some e) zero_is (are 0 e refl))) in
      let later = destinations_printed ends (i + 1) (omega (arith, few)) (λ k x is. let moved : i + suc k ≡ i + 1 + k = omega arith in subst (λ n. slice_get ds n ≡ Some x) moved (are (suc k) x is)) in
      rw (lt-ltb 0 (10000 + i) (omega arith), le-leb (10000 + i) 65534 (omega (arith, few)), has) later

  sources_printed : (ends : List End) (j : ℕ) → j + length ends ≤ 60000 → ((k : ℕ) (e : End) → slice_get ends k ≡ Some e → slice_get ss (j + k) ≡ Some e) → prints (source_rules (length ds) j ends) ≡ true
  sources_printed [] j few are = refl
  sources_printed (e ∷ ends) j few are =
      let zero_is : j + 0 ≡ j = omega arith in
      let has = has_found (length ds + j + 1) nats _ (source_found rs ds ss j e (subst (λ n. slice_get ss n ≡ Some e) zero_is (are 0 e refl))) in
      let later = sources_printed ends (j + 1) (omega (arith, few)) (λ k x is. let moved : j + suc k ≡ j + 1 + k = omega arith in subst (λ n. slice_get ss n ≡ Some x) moved (are (suc k) x is)) in
      rw (lt-ltb 0 (j + 2) (omega arith), le-leb (j + 2) 65534 (omega (arith, few)), has) later

  leaving_printed : prints (leaving_rules site) ≡ true
  leaving_printed = rw (eq-eqb (length site.faces + 1) (length site.faces + 1) refl) refl

  guard_printed : (packet behind : Plain Bool) (guard : List IpfwRule) → IsGuard site packet behind guard → prints guard ≡ true
  guard_printed packet behind guard (inl n) = ap prints n.none
  guard_printed packet behind guard (inr f) =
      let P = is_printed_rule site nats in
      ap prints f.are
      ∙ all_joined P (f.arriving ++ leaving_rules site ++ f.forwarded) f.sent
      (all_joined P (f.arriving ++ leaving_rules site) f.forwarded
      (all_joined P f.arriving (leaving_rules site) (f.arriving_list.list.printed nats) leaving_printed) (f.forwarded_list.list.printed nats)) (f.sent_list.list.printed nats)

-- State

abbrev keeps : IpfwRule → Bool
keeps r = not (allows r.act) || r.keep

plain_keeps : (rules : List IpfwRule) → list_all is_plain rules ≡ true → list_all keeps rules ≡ true
plain_keeps [] plain = refl
plain_keeps (r ∷ rules) plain =
    let both = and_parts (is_plain r) (list_all is_plain rules) plain in
    and_from (keeps r) (list_all keeps rules) (and_parts _ (keeps r) both.0).1 (plain_keeps rules both.1)

destinations_keep : (i : ℕ) (ends : List End) → list_all keeps (destination_rules i ends) ≡ true
destinations_keep i [] = refl
destinations_keep i (e ∷ ends) = destinations_keep (i + 1) ends

sources_keep : (d j : ℕ) (ends : List End) → list_all keeps (source_rules d j ends) ≡ true
sources_keep d j [] = refl
sources_keep d j (e ∷ ends) = sources_keep d (j + 1) ends

guard_keeps : (site : Site) (packet behind : Plain Bool) (guard : List IpfwRule) → IsGuard site packet behind guard → list_all keeps guard ≡ true
guard_keeps site packet behind guard (inl n) = ap (list_all keeps) n.none
guard_keeps site packet behind guard (inr f) =
    ap (list_all keeps) f.are
    ∙ all_joined keeps (f.arriving ++ leaving_rules site ++ f.forwarded) f.sent
    (all_joined keeps (f.arriving ++ leaving_rules site) f.forwarded
    (all_joined keeps f.arriving (leaving_rules site) (plain_keeps f.arriving f.arriving_list.list.plain) refl)
    (plain_keeps f.forwarded f.forwarded_list.list.plain)) (plain_keeps f.sent f.sent_list.list.plain)

guard_names_none : (nats : List IpfwNat) (site : Site) (packet behind : Plain Bool) (guard : List IpfwRule) → IsGuard site packet behind guard → all_redirects nats guard ≡ 0
guard_names_none nats site packet behind guard (inl n) = ap (all_redirects nats) n.none
guard_names_none nats site packet behind guard (inr f) =
    let a = plain_names_none nats f.arriving f.arriving_list.list.plain in
    let b = plain_names_none nats f.forwarded f.forwarded_list.list.plain in
    let d = plain_names_none nats f.sent f.sent_list.list.plain in
    let one = named_both nats f.arriving (leaving_rules site) in
    let two = named_both nats (f.arriving ++ leaving_rules site) f.forwarded in
    let three = named_both nats (f.arriving ++ leaving_rules site ++ f.forwarded) f.sent in
    let none : all_redirects nats (leaving_rules site) ≡ 0 = refl in
    let whole = ap (all_redirects nats) f.are in
    omega (arith, a, b, d, one, two, three, none, whole)

-- The whole

module _ (site : Site) (tables : Tables) (c : IpfwConfig) (plan : Plan site tables c) where
  abbrev ds : List End
  ds = plan.destinations

  abbrev ss : List End
  ss = plan.sources

  abbrev all_nats : List IpfwNat
  all_nats = nats_for plan.redirects ds ss

  nats_apart : are_apart c.nats ≡ true
  nats_apart = ap are_apart plan.nats ∙ dst_apart plan.redirects 0 (length ds) ds ss (omega arith)

  nats_printed : list_all is_printed_nat c.nats ≡ true
  nats_printed =
      ap (list_all is_printed_nat) plan.nats
      ∙ dst_printed plan.redirects 0 ds (source_nats (length ds) 0 ss) (omega (arith, plan.ends.few_destinations))
      (all_shown_printed site tables plan.regular plan.met plan.redirects plan.shown.sound plan.ends.fit plan.shown.somewhere)
      (λ fit. src_printed (length ds) 0 ss (omega (arith, plan.ends.few_destinations, plan.ends.few_sources)) fit)
      (subst Aliased plan.nats plan.aliases)

  rules_printed : list_all (is_printed_rule site all_nats) c.rules ≡ true
  rules_printed =
      let P = is_printed_rule site all_nats in
      ap (list_all P) (grouped site tables c plan)
      ∙ all_joined P plan.rules.guard (lookup_rules ++ rest site tables c plan) (guard_printed site plan.redirects ds ss plan.packet plan.behind plan.rules.guard plan.rules.guarded)
      (all_joined P plan.rules.arriving (for_sent site tables c plan) (plan.rules.arriving_list.list.printed all_nats)
      (all_joined P plan.rules.sent (for_ends site tables c plan) (plan.rules.sent_list.list.printed all_nats)
      (all_joined P (destination_rules 0 ds) (for_sources site tables c plan)
      (destinations_printed site plan.redirects ds ss ds 0 (omega (arith, plan.ends.few_destinations)) (λ k e is. let same : k ≡ 0 + k = omega arith in subst (λ n. slice_get ds n ≡ Some e) same is))
      (sources_printed site plan.redirects ds ss ss 0 (omega (arith, plan.ends.few_sources)) (λ k e is. let same : k ≡ 0 + k = omega arith in subst (λ n. slice_get ss n ≡ Some e) same is)))))

  redirects_few : all_redirects all_nats c.rules ≤ 200000
  redirects_few =
      let nats = all_nats in
      let whole = ap (all_redirects nats) (grouped site tables c plan) in
      let one = named_both nats plan.rules.guard (lookup_rules ++ rest site tables c plan) in
      let two = named_both nats lookup_rules (rest site tables c plan) in
      let three = named_both nats plan.rules.arriving (for_sent site tables c plan) in
      let four = named_both nats plan.rules.sent (for_ends site tables c plan) in
      let g = guard_names_none nats site plan.packet plan.behind plan.rules.guard plan.rules.guarded in
      let l : all_redirects nats lookup_rules ≡ 0 = refl in
      let a = plain_names_none nats plan.rules.arriving plan.rules.arriving_list.list.plain in
      let s = plan.rules.sent_list.list.plain in
      let h = plain_names_none nats plan.rules.sent s in
      let low = ends_name plan.redirects ds ss plan.ends.different in
      let few = plan.shown.few in
      omega (arith, whole, one, two, three, four, g, l, a, h, low, few)

  pub printable : is_printable site c ≡ true
  printable =
      let few = subst (λ n. nat_le (all_redirects n c.rules) 200000 ≡ true) (sym plan.nats) (le-leb (all_redirects all_nats c.rules) 200000 redirects_few) in
      let printed = subst (λ n. list_all (is_printed_rule site n) c.rules ≡ true) (sym plan.nats) rules_printed in
      let a = are_ordered c.rules in
      let b = are_apart c.nats in
      let d = list_all is_printed_nat c.nats in
      let e = list_all (is_printed_rule site c.nats) c.rules in
      and_from (a && b && d && e) (nat_le (all_redirects c.nats c.rules) 200000)
      (and_from (a && b && d) e (and_from (a && b) d (and_from a b (ordered site tables c plan) nats_apart) nats_printed) printed) few

  pub tracked : tracks site c ≡ true
  tracked =
      ap (list_all keeps) (grouped site tables c plan)
      ∙ all_joined keeps plan.rules.guard (lookup_rules ++ rest site tables c plan) (guard_keeps site plan.packet plan.behind plan.rules.guard plan.rules.guarded)
      (all_joined keeps plan.rules.arriving (for_sent site tables c plan) (plain_keeps plan.rules.arriving plan.rules.arriving_list.list.plain)
      (all_joined keeps plan.rules.sent (for_ends site tables c plan) (plain_keeps plan.rules.sent plan.rules.sent_list.list.plain)
      (all_joined keeps (destination_rules 0 ds) (for_sources site tables c plan) (destinations_keep 0 ds) (sources_keep (length ds) 0 ss))))
