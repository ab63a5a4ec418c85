-- Redirects that fit look at ports of TCP and UDP alone.
use Rattle.std.proofs.Common.{◌≡◌, ℕ, Bool, true, false, ◌&&◌, ◌||◌, cond, nat_eq, Option, Some, None, is_some, is_none, find, List, [], ◌∷◌, IfSome, refl, sym, ap, subst, ◌∙◌, ⊎_elim}
use Rattle.std.specs.List.{list_all}
use Rattle.std.specs.Option.{option_map_or}
use Rattle.std.proofs.lemmas.Bool.{false≢true, both_ways, and_parts, or_cases, eqb-true, cond_both}
use Rattle.fws_net.specs.declared.packet.Packet.{Packet}
use Rattle.fws_net.specs.declared.outcome.End.{End}
use Rattle.fws_net.specs.Fates.{has_ports}
use Rattle.fws_rules.specs.Alike.{Alike}
use Rattle.fws_ipfw.specs.declared.config.Redirect.{Redirect}
use Rattle.fws_ipfw.specs.RuleText as rules
use Rattle.fws_ipfw.specs.Soundness.{redirect_fits}
use Rattle.fws_ipfw.specs.Walk.{is_end, is_of_proto, goes_to_port, goes_to_addr, comes_from_port, comes_from_addr, or_else, redirect_in, redirect_out}

-- What fits

-- a redirect of ports is for a protocol that has ports
ported : (o : Option ℕ) (b c d e : Bool) (proto : ℕ) → ((rules.has_ports o && b && c) || (is_none o && d && e)) ≡ true → option_map_or (nat_eq proto) o false ≡ true
    → has_ports proto ≡ true
ported None b c d e proto h on = absurd (false≢true on)
ported (Some n) b c d e proto h on =
    ⊎_elim (λ first. subst (λ x. has_ports x ≡ true) (sym (eqb-true proto n on)) (and_parts (has_ports n) b (and_parts (has_ports n && b) c first).0).0)
    (λ other. absurd (false≢true other)) (or_cases (has_ports n && b && c) (false && d && e) h)

port_redirected : (r : Redirect) (proto : ℕ) → redirect_fits r ≡ true → is_of_proto r proto ≡ true → has_ports proto ≡ true
port_redirected r proto h on = ported r.proto (is_some r.local.port) (is_some r.public.port) (is_none r.local.port) (is_none r.public.port) proto h on

-- a redirect of addresses has no ports
unported : (o : Option ℕ) (b c d e : Bool) → ((rules.has_ports o && b && c) || (is_none o && d && e)) ≡ true → is_none o ≡ true → (d ≡ true) × (e ≡ true)
unported None b c d e h on = and_parts d e h
unported (Some n) b c d e h on = absurd (false≢true on)

addr_redirected : (r : Redirect) → redirect_fits r ≡ true → is_none r.proto ≡ true → (is_none r.local.port ≡ true) × (is_none r.public.port ≡ true)
addr_redirected r h on = unported r.proto (is_some r.local.port) (is_some r.public.port) (is_none r.local.port) (is_none r.public.port) h on

-- Packets that are alike have the same redirect

and_alike : (a b c d : Bool) → a ≡ b → (a ≡ true → c ≡ d) → (a && c) ≡ (b && d)
and_alike true b c d e h = let same : c ≡ d = h refl in cc
and_alike false b c d e h = ap (λ x. x && d) e

end_alike : (e : End) (a b x y : ℕ) → a ≡ b → option_map_or (nat_eq x) e.port true ≡ option_map_or (nat_eq y) e.port true → is_end e a x ≡ is_end e b y
end_alike e a b x y same port =
    ap (λ z. nat_eq e.addr z && option_map_or (nat_eq x) e.port true) same ∙ ap (λ z. nat_eq e.addr b && z) port

-- an end without a port has every one
any_port : (o : Option ℕ) (x y : ℕ) → is_none o ≡ true → option_map_or (nat_eq x) o true ≡ option_map_or (nat_eq y) o true
any_port None x y e = refl
any_port (Some n) x y e = absurd (false≢true e)

module _ (v w : Packet) (a : Alike v w) where
  to_port_alike : (r : Redirect) → redirect_fits r ≡ true → goes_to_port v r ≡ goes_to_port w r
  to_port_alike r h =
      and_alike (is_of_proto r v.proto) (is_of_proto r w.proto) _ _ (ap (is_of_proto r) a.proto)
      (λ on. end_alike r.public v.dst w.dst v.dport w.dport a.dst (ap (λ x. option_map_or (nat_eq x) r.public.port true) (a.dport (port_redirected r v.proto h on))))

  to_addr_alike : (r : Redirect) → redirect_fits r ≡ true → goes_to_addr v r ≡ goes_to_addr w r
  to_addr_alike r h =
      and_alike (is_none r.proto) (is_none r.proto) _ _ refl
      (λ on. end_alike r.public v.dst w.dst v.dport w.dport a.dst (any_port r.public.port v.dport w.dport (addr_redirected r h on).1))

  from_port_alike : (r : Redirect) → redirect_fits r ≡ true → comes_from_port v r ≡ comes_from_port w r
  from_port_alike r h =
      and_alike (is_of_proto r v.proto) (is_of_proto r w.proto) _ _ (ap (is_of_proto r) a.proto)
      (λ on. end_alike r.local v.src w.src v.sport w.sport a.src (ap (λ x. option_map_or (nat_eq x) r.local.port true) (a.sport (port_redirected r v.proto h on))))

  from_addr_alike : (r : Redirect) → redirect_fits r ≡ true → comes_from_addr v r ≡ comes_from_addr w r
  from_addr_alike r h =
      and_alike (is_none r.proto) (is_none r.proto) _ _ refl
      (λ on. end_alike r.local v.src w.src v.sport w.sport a.src (any_port r.local.port v.sport w.sport (addr_redirected r h on).0))

  found_alike : (f g : Redirect → Bool) → ((r : Redirect) → redirect_fits r ≡ true → f r ≡ g r) → (rs : List Redirect) → list_all redirect_fits rs ≡ true → find f rs ≡ find g rs
  found_alike f g same [] all = refl
  found_alike f g same (r ∷ rs) all =
      let both = and_parts (redirect_fits r) (list_all redirect_fits rs) all in
      ap (λ b. cond b (Some r) (find f rs)) (same r both.0) ∙ ap (λ o. cond (g r) (Some r) o) (found_alike f g same rs both.1)

  pub in_alike : (rs : List Redirect) → list_all redirect_fits rs ≡ true → redirect_in rs v ≡ redirect_in rs w
  in_alike rs all =
      ap (λ o. or_else o (find (goes_to_addr v) rs)) (found_alike (goes_to_port v) (goes_to_port w) to_port_alike rs all)
      ∙ ap (or_else (find (goes_to_port w) rs)) (found_alike (goes_to_addr v) (goes_to_addr w) to_addr_alike rs all)

  pub out_alike : (rs : List Redirect) → list_all redirect_fits rs ≡ true → redirect_out rs v ≡ redirect_out rs w
  out_alike rs all =
      ap (λ o. or_else o (find (comes_from_addr v) rs)) (found_alike (comes_from_port v) (comes_from_port w) from_port_alike rs all)
      ∙ ap (or_else (find (comes_from_port w) rs)) (found_alike (comes_from_addr v) (comes_from_addr w) from_addr_alike rs all)

-- Packets without ports have redirects without ports

none_there : (port : Option ℕ) → is_none port ≡ true → port ≡ None
none_there None e = refl
none_there (Some x) e = absurd (false≢true e)

found_known : (test : Redirect → Bool) (P : Redirect → Type 0) → ((r : Redirect) → redirect_fits r ≡ true → test r ≡ true → P r)
    → (rs : List Redirect) → list_all redirect_fits rs ≡ true → IfSome (find test rs) P
found_known test P step [] all = tt
found_known test P step (r ∷ rs) all =
    let both = and_parts (redirect_fits r) (list_all redirect_fits rs) all in
    cond_both (test r) (Some r) (find test rs) (λ o. IfSome o P) (step r both.0) (λ e. found_known test P step rs both.1)

else_known : (P : Redirect → Type 0) (x y : Option Redirect) → IfSome x P → IfSome y P → IfSome (or_else x y) P
else_known P None y h k = k
else_known P (Some r) y h k = h

module _ (v : Packet) (off : has_ports v.proto ≡ false) where
  pub in_portless : (rs : List Redirect) → list_all redirect_fits rs ≡ true → IfSome (redirect_in rs v) (λ r. r.local.port ≡ None)
  in_portless rs all =
      let P : Redirect → Type 0 = λ r. r.local.port ≡ None in
      else_known P (find (goes_to_port v) rs) (find (goes_to_addr v) rs)
      (found_known (goes_to_port v) P
      (λ r h on. absurd (both_ways (has_ports v.proto) off (port_redirected r v.proto h (and_parts (is_of_proto r v.proto) (is_end r.public v.dst v.dport) on).0))) rs all)
      (found_known (goes_to_addr v) P
      (λ r h on. none_there r.local.port (addr_redirected r h (and_parts (is_none r.proto) (is_end r.public v.dst v.dport) on).0).0) rs all)

  pub out_portless : (rs : List Redirect) → list_all redirect_fits rs ≡ true → IfSome (redirect_out rs v) (λ r. r.public.port ≡ None)
  out_portless rs all =
      let P : Redirect → Type 0 = λ r. r.public.port ≡ None in
      else_known P (find (comes_from_port v) rs) (find (comes_from_addr v) rs)
      (found_known (comes_from_port v) P
      (λ r h on. absurd (both_ways (has_ports v.proto) off (port_redirected r v.proto h (and_parts (is_of_proto r v.proto) (is_end r.local v.src v.sport) on).0))) rs all)
      (found_known (comes_from_addr v) P
      (λ r h on. none_there r.public.port (addr_redirected r h (and_parts (is_none r.proto) (is_end r.local v.src v.sport) on).0).1) rs all)
