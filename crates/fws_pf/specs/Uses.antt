-- Which rules a packet's walk uses: those that it comes to and whose conditions hold there, in their order. A rule has a number: rules are
-- counted from 0, those of rdr ahead of those of nat, and these ahead of the filter's.
use Rattle.std.specs.Prelude.{ℕ, suc, ◌+◌, Bool, true, false, Option, Some, None, List, [], ◌∷◌, ◌++◌, length, if◌then◌else◌}
use Rattle.fws_net.specs.declared.packet.Packet.{Packet}
use Rattle.fws_net.specs.declared.connection.Kind.{Kind}
use Rattle.fws_net.specs.declared.connection.Kind.TheVariants.{New, Est}
use Rattle.fws_net.specs.declared.site.Site.{Site}
use Rattle.fws_net.specs.declared.transit.Transit.{Transit}
use Rattle.fws_net.specs.Conditions.{holds, is_shown}
use Rattle.fws_net.specs.Transits.{used_by}
use Rattle.fws_pf.specs.declared.config.PfRule.{PfRule}
use Rattle.fws_pf.specs.declared.config.PfNat.{PfNat}
use Rattle.fws_pf.specs.declared.config.PfConfig.{PfConfig}
use Rattle.fws_pf.specs.Walk.{view_on, translated_by, translations, chosen, matches, acted, interface_of, pass_of}

-- the number of the first translation of a pass, and that of the first filter rule
abbrev pub first_translation : PfConfig → Bool → ℕ
first_translation c outward = if outward then length c.rdr else 0

abbrev pub first_filter_rule : PfConfig → ℕ
first_filter_rule c = length c.rdr + length c.nat

-- the first translation whose condition holds, of which the first is counted n
abbrev pub translation_used : Site → Bool → ℕ → List PfNat → Transit → List ℕ
translation_used site outward n [] t = []
translation_used site outward n (nat ∷ nats) t =
    if holds nat.cond (view_on site outward t) then n ∷ [] else translation_used site outward (suc n) nats t

-- what is used of the filter's rules, of which the first is counted n: those that match, up to one that is quick
abbrev pub rules_used : Site → Bool → ℕ → List PfRule → Transit → List ℕ
rules_used site outward n [] t = []
rules_used site outward n (r ∷ rs) t =
    if matches site outward r t then n ∷ (if r.quick then [] else rules_used site outward (suc n) rs (acted r t))
    else rules_used site outward (suc n) rs t

-- what is used behind a packet's translation: nothing where the translation passes it
abbrev pub used_behind : PfConfig → Site → Packet → Bool → Option PfNat → Transit → List ℕ
used_behind c site p outward None t = rules_used site outward (first_filter_rule c) c.filter t
used_behind c site p outward (Some nat) t =
    if nat.past then [] else rules_used site outward (first_filter_rule c) c.filter (translated_by p outward nat t)

-- what the pass of a packet uses; on an interface that is skipped nothing is met, and an established packet passes without rules
abbrev pub pass_used : PfConfig → Site → Packet → Kind → Bool → Transit → List ℕ
pass_used c site p New outward t =
    if is_shown (interface_of site outward t) c.skip then []
    else translation_used site outward (first_translation c outward) (translations c outward) t
    ++ used_behind c site p outward (chosen site outward (translations c outward) t) t
pass_used c site p (Est r) outward t = []

-- the numbers of the rules that the walk of a packet of class k uses, in the order in which it comes to them
abbrev pub used : PfConfig → Site → Packet → Kind → List ℕ
used c site p k = used_by (pass_of c site p k false) (pass_used c site p k false) (λ t. []) (pass_used c site p k true) (pass_used c site p k true) site p
