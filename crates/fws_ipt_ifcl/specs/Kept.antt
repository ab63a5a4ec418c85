-- What a diagram keeps of its configuration.
use Rattle.std.specs.Prelude.{◌≡◌, ℕ, ◌+◌, ◌<◌, ◌≤◌, true, slice_get, List, [], length, map, sum}
use Rattle.std.specs.Option.{option_map}
use Rattle.fws_net.specs.declared.connection.Kind.{Kind}
use Rattle.fws_net.specs.declared.packet.Packet.{Packet}
use Rattle.fws_net.specs.declared.site.Site.{Site}
use Rattle.fws_ifcl.specs.declared.diagram.Ifcl.{Ifcl}
use Rattle.fws_ifcl.specs.declared.diagram.Spot.{Spot}
use Rattle.fws_ifcl.specs.declared.refusal.UnfoldRefusal.{UnfoldRefusal as DiagramRefusal}
use Rattle.fws_ifcl.specs.declared.refusal.UnfoldRefusal.TheVariants as diagrams
use Rattle.fws_ifcl.specs.Refusals.{named_in as calls_in, is_staged, refusal_of as diagram_refusal}
use Rattle.fws_ifcl.specs.Spots.{told}
use Rattle.fws_ifcl.specs.Uses.{used_places}
use Rattle.fws_ifcl.specs.Walk.{means, rules_at}
use Rattle.fws_ipt.specs.declared.config.IptConfig.{IptConfig}
use Rattle.fws_ipt.specs.declared.refusal.UnfoldRefusal.{UnfoldRefusal}
use Rattle.fws_ipt.specs.declared.refusal.UnfoldRefusal.TheVariants.{Loop, Deep, Long}
use Rattle.fws_ipt.specs.Loops.{NoLoop}
use Rattle.fws_ipt.specs.Refusals.{named_in, is_builtin, width_at, refusal_of}
use Rattle.fws_ipt.specs.Soundness.{is_fitting}
use Rattle.fws_ipt.specs.Uses.{used}
use Rattle.fws_ipt.specs.Walk.{walk}
use Rattle.fws_ipt_ifcl.specs.Fitting.{is_sideless_config, are_netmaps_placed, is_met, AreMet}

-- where rules fit, no rule asks for its side, NETMAP stands in built-in chains and no chain reaches itself, the diagram does
-- with each packet of the site what the configuration does
abbrev pub KeepsWalks : Ifcl → Site → IptConfig → Type 0
KeepsWalks d site c =
    is_fitting c ≡ true → is_sideless_config c ≡ true → are_netmaps_placed c ≡ true → NoLoop c.chains
    → (p : Packet) (k : Kind) → p.entry ≤ length site.faces + 1 → means d site p k ≡ walk c site p k

-- the diagram has three chains of its own, each with one rule that enters no chain, and behind them one for each of the
-- file's in their order, with its name, as many rules as its width, and the same calls
pub record KeepsChains (d : Ifcl) (site : Site) (c : IptConfig) : Type 0 where
  pub count : length d.chains ≡ length c.chains + 3
  pub own_rules : (n : ℕ) → n < 3 → length (rules_at d.chains n) ≡ 1
  pub own_calls : (n : ℕ) → n < 3 → calls_in d.chains n ≡ []
  pub names : (n : ℕ) → option_map (λ chain. chain.name) (slice_get d.chains (n + 3)) ≡ option_map (λ chain. chain.name) (slice_get c.chains n)
  pub widths : (n : ℕ) → length (rules_at d.chains (n + 3)) ≡ width_at (length site.faces) c.chains n
  pub calls : (n : ℕ) → calls_in d.chains (n + 3) ≡ map (λ m. m + 3) (named_in c.chains n)

-- the chains of the stages are the diagram's own and the built-in chains of the file that packets meet
pub record KeepsStages (d : Ifcl) (c : IptConfig) : Type 0 where
  pub own : (n : ℕ) → n < 3 → is_staged d n ≡ true
  pub met : (n : ℕ) → is_staged d (n + 3) ≡ is_met c.chains n
  pub builtin : AreMet c.chains → (n : ℕ) → is_staged d (n + 3) ≡ is_builtin c.chains n

-- the refusal of a diagram for that of its configuration
abbrev pub refused_behind : UnfoldRefusal → DiagramRefusal
refused_behind (Loop n) = diagrams.Loop (n + 3)
refused_behind (Deep n) = diagrams.Deep (n + 3)
refused_behind (Long n) = diagrams.Long (n + 3)

-- where packets meet each built-in chain, the diagram is refused where the configuration is, for the same cause and chain
abbrev pub KeepsRefusals : Ifcl → Site → IptConfig → Type 0
KeepsRefusals d site c = AreMet c.chains → diagram_refusal d ≡ option_map refused_behind (refusal_of site c)

-- how many rules a configuration has
abbrev pub rule_count : IptConfig → ℕ
rule_count c = sum (map (λ chain. length chain.rules) c.chains)

-- where the diagram keeps walks, the rules at the places that a packet's walk through it uses are those that the configuration's walk
-- uses, in the order in which it comes to them
abbrev pub KeepsUses : Ifcl → List Spot → Site → IptConfig → Type 0
KeepsUses d spots site c =
    is_fitting c ≡ true → is_sideless_config c ≡ true → are_netmaps_placed c ≡ true → NoLoop c.chains
    → (p : Packet) (k : Kind) → p.entry ≤ length site.faces + 1 → told spots (used_places d site p k) ≡ used c site p k
