-- What the diagram keeps of its configuration.
use Rattle.std.proofs.Common.{◌≡◌, ℕ, zero, suc, ◌<◌, slice_get, Option, Some, None, option_map, [], length, arith, refl, ap, ◌∙◌}
use Rattle.fws_net.specs.declared.site.Site.{Site}
use Rattle.fws_net.specs.Routes.{IsSound}
use Rattle.fws_net.specs.RouteLaws.{RoutesAreEntries}
use Rattle.fws_ifcl.specs.declared.diagram.Chain.{Chain}
use Rattle.fws_ifcl.specs.Refusals.{named_in as calls_in}
use Rattle.fws_ifcl.specs.Walk.{rules_at}
use Rattle.fws_ifcl_rules.specs.UsedPlaces.{TellsOfUses}
use Rattle.fws_ipt.specs.declared.config.IptChain.{IptChain}
use Rattle.fws_ipt.specs.declared.config.IptConfig.{IptConfig}
use Rattle.fws_ipt_ifcl.specs.declared.side.SideTest.{SideTest}
use Rattle.fws_ipt_ifcl.specs.Diagram.{chain_for, drawn_by}
use Rattle.fws_ipt_ifcl.specs.Kept.{KeepsWalks, KeepsChains, KeepsStages, KeepsUses}
use Rattle.fws_ipt_ifcl.specs.Placed.{placed_of, spots_of}
use Rattle.fws_ipt_ifcl.proofs.Files.{file_chain}
use Rattle.fws_ipt_ifcl.proofs.Named.{file_calls, file_widths, drawn_count}
use Rattle.fws_ipt_ifcl.proofs.Staged.{own_staged, file_staged, builtins_staged}
use Rattle.fws_ipt_ifcl.proofs.Ways.{walks_kept}
use Rattle.fws_ipt_ifcl.proofs.WaysTold.{uses_told}

pub keeps_walks : (asks : SideTest) (site : Site) → IsSound site → RoutesAreEntries → (c : IptConfig) → KeepsWalks (drawn_by asks site c) site c
keeps_walks asks site sound entries c fit plain netmaps none p k of_site =
    walks_kept asks site sound entries c (record { fit = fit; plain = plain; netmaps = netmaps }) p k of_site

own_rules : (asks : SideTest) (site : Site) (c : IptConfig) (n : ℕ) → n < 3 → length (rules_at (drawn_by asks site c).chains n) ≡ 1
own_rules asks site c zero lt = refl
own_rules asks site c (suc zero) lt = refl
own_rules asks site c (suc (suc zero)) lt = refl
own_rules asks site c (suc (suc (suc n))) lt = absurd (omega (arith, lt))

own_calls : (asks : SideTest) (site : Site) (c : IptConfig) (n : ℕ) → n < 3 → calls_in (drawn_by asks site c).chains n ≡ []
own_calls asks site c zero lt = refl
own_calls asks site c (suc zero) lt = refl
own_calls asks site c (suc (suc zero)) lt = refl
own_calls asks site c (suc (suc (suc n))) lt = absurd (omega (arith, lt))

name_kept : (asks : SideTest) (site : Site) (o : Option IptChain) → option_map (λ (chain : Chain). chain.name) (option_map (chain_for asks site) o) ≡ option_map (λ (chain : IptChain). chain.name) o
name_kept asks site None = refl
name_kept asks site (Some chain) = refl

pub keeps_chains : (asks : SideTest) (site : Site) (c : IptConfig) → KeepsChains (drawn_by asks site c) site c
keeps_chains asks site c = record {
  count = drawn_count asks site c.chains;
  own_rules = own_rules asks site c;
  own_calls = own_calls asks site c;
  names = λ n. ap (option_map (λ (chain : Chain). chain.name)) (file_chain asks site c.chains n) ∙ name_kept asks site (slice_get c.chains n);
  widths = file_widths asks site c.chains;
  calls = file_calls asks site c.chains;
}

pub keeps_stages : (asks : SideTest) (site : Site) (c : IptConfig) → KeepsStages (drawn_by asks site c) c
keeps_stages asks site c = record { own = own_staged asks site c; met = file_staged asks site c; builtin = builtins_staged asks site c }

pub keeps_uses : TellsOfUses → (site : Site) → IsSound site → RoutesAreEntries → (c : IptConfig) → KeepsUses (placed_of site c) (spots_of site c) site c
keeps_uses law site sound entries c fit plain netmaps none p k of_site =
    uses_told law site sound entries p of_site c (record { fit = fit; plain = plain; netmaps = netmaps }) k
