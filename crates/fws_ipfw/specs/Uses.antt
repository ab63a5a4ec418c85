-- Which rules a packet's walk uses: those that it comes to and whose conditions hold there, in their order. A rule has a number: rules are
-- counted from 0, as they are sorted.
use Rattle.std.specs.Prelude.{ℕ, suc, Bool, true, false, ◌&&◌, nat_lt, List, [], ◌∷◌, if◌then◌else◌}
use Rattle.fws_net.specs.declared.packet.Packet.{Packet}
use Rattle.fws_net.specs.declared.connection.Kind.{Kind}
use Rattle.fws_net.specs.declared.site.Site.{Site}
use Rattle.fws_net.specs.declared.transit.Transit.{Transit}
use Rattle.fws_net.specs.Conditions.{holds}
use Rattle.fws_net.specs.Connections.{is_est}
use Rattle.fws_net.specs.Transits.{with_tracked_dst, used_by}
use Rattle.fws_ipfw.specs.declared.config.IpfwRule.{IpfwRule}
use Rattle.fws_ipfw.specs.declared.config.IpfwConfig.{IpfwConfig}
use Rattle.fws_ipfw.specs.declared.pass.Pass.{Pass}
use Rattle.fws_ipfw.specs.declared.pass.Step.{Step}
use Rattle.fws_ipfw.specs.declared.pass.Step.TheVariants.{Accepted, Dropped, Onwards}
use Rattle.fws_ipfw.specs.Walk.{view_on, tagged, step_of, pass_walk}

-- what is used behind a rule, by what go gives from the rules with a least number on
abbrev pub used_behind : (ℕ → Pass → List ℕ) → Step → List ℕ
used_behind go (Accepted t) = []
used_behind go Dropped = []
used_behind go (Onwards to m) = go to m

-- what is used of the rules, of which the first is the one counted n; those with a number below `to` are passed over. An established
-- packet, whose pass ends at a rule that keeps state, uses this rule where its condition holds
abbrev pub rules_used : IpfwConfig → Site → Packet → Kind → Bool → ℕ → List IpfwRule → ℕ → Pass → List ℕ
rules_used c site p k outward n [] to m = []
rules_used c site p k outward n (r ∷ rs) to m =
    if nat_lt r.number to then rules_used c site p k outward (suc n) rs to m
    else if is_est k && r.keep then (if holds r.cond (view_on site k outward m.transit) then n ∷ [] else [])
    else if holds r.cond (view_on site k outward m.transit)
    then n ∷ used_behind (rules_used c site p k outward (suc n) rs) (step_of c site p k outward r.act (record m { transit = tagged r.tag m.transit }))
    else rules_used c site p k outward (suc n) rs 0 m

-- what is used of a pass
abbrev pub pass_used : IpfwConfig → Site → Packet → Kind → Bool → Transit → List ℕ
pass_used c site p k outward t = rules_used c site p k outward 0 c.rules 0 (record { transit = t; translated = false })

-- the numbers of the rules that the walk of a packet of class k uses, in the order in which it comes to them
abbrev pub used : IpfwConfig → Site → Packet → Kind → List ℕ
used c site p k =
    used_by (pass_walk c site p k false) (pass_used c site p k false) (λ t. []) (pass_used c site p k true)
    (λ t. pass_used c site p k true (with_tracked_dst k t)) site p
