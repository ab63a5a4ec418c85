-- The diagrams of iptables: their refusals are those of the configuration.
use Rattle.std.proofs.Common.{◌≡◌, ℕ, ◌+◌, true, Option, Some, None, Result, Ok, Err, IfOk, List, [], option_map, refl, sym, ap, ◌∙◌}
use Rattle.std.specs.Option.{option_map_or}
use Rattle.std.specs.Prelude.{slice_get}
use Rattle.fws_ifcl.specs.declared.diagram.Chain.{Chain}
use Rattle.fws_ifcl.specs.declared.diagram.Ifcl.{Ifcl}
use Rattle.fws_ifcl.specs.declared.diagram.Spot.{Spot}
use Rattle.fws_ifcl.specs.Refusals.{refusal_of}
use Rattle.fws_ifcl.specs.Soundness.{ifcl_ok}
use Rattle.fws_ipt.specs.declared.config.IptChain.{IptChain}
use Rattle.fws_ipt.specs.declared.config.IptConfig.{IptConfig}
use Rattle.fws_ipt.specs.declared.refusal.UnfoldRefusal.{UnfoldRefusal as IptRefusal}
use Rattle.fws_ipt.specs.declared.refusal.UnfoldRefusal.TheVariants.{Loop, Deep, Long}
use Rattle.fws_ipt.specs.Loops.{NoLoop}
use Rattle.fws_ipt.specs.Refusals.{refusal_of as ipt_refusal_of}
use Rattle.fws_ipt.specs.Soundness.{is_fitting}
use Rattle.fws_ipt.specs.Uses.{used as ipt_used}
use Rattle.fws_ipt.specs.Walk.{walk as ipt_walk}
use Rattle.fws_ipt_ifcl.specs.Fitting.{IsDrawable}
use Rattle.fws_ipt_ifcl.specs.Kept.{KeepsChains, KeepsRefusals, KeepsUses, KeepsWalks, refused_behind}
use Rattle.fws_net.specs.declared.site.Site.{Site}
use Rattle.fws_top.specs.Diagrams.{Draws, ShowsUses}
use Rattle.fws_top.specs.Judged.{loop_at, deep_at, long_at, chain_name, named_refusal, ipt_chain_name, ipt_named_refusal, ipt_refusal, diagram_refusal}

-- a list of names: that of a chain, or none
abbrev or_none : Option (List ℕ) → List ℕ
or_none None = []
or_none (Some name) = name

name_or_none : (o : Option Chain) → option_map_or (λ chain. chain.name) o [] ≡ or_none (option_map (λ chain. chain.name) o)
name_or_none None = refl
name_or_none (Some chain) = refl

ipt_name_or_none : (o : Option IptChain) → option_map_or (λ chain. chain.name) o [] ≡ or_none (option_map (λ chain. chain.name) o)
ipt_name_or_none None = refl
ipt_name_or_none (Some chain) = refl

abbrev pub AreNamedAlike : List Chain → List IptChain → Type 0
AreNamedAlike chains files = (n : ℕ) → option_map (λ (c : Chain). c.name) (slice_get chains (n + 3)) ≡ option_map (λ (c : IptChain). c.name) (slice_get files n)

name_alike : (chains : List Chain) (files : List IptChain) → AreNamedAlike chains files → (n : ℕ) → chain_name chains (n + 3) ≡ ipt_chain_name files n
name_alike chains files alike n = name_or_none (slice_get chains (n + 3)) ∙ ap or_none (alike n) ∙ sym (ipt_name_or_none (slice_get files n))

refusal_alike : (chains : List Chain) (files : List IptChain) → AreNamedAlike chains files → (r : IptRefusal) → named_refusal chains (refused_behind r) ≡ ipt_named_refusal files r
refusal_alike chains files alike (Loop n) = ap loop_at (name_alike chains files alike n)
refusal_alike chains files alike (Deep n) = ap deep_at (name_alike chains files alike n)
refusal_alike chains files alike (Long n) = ap long_at (name_alike chains files alike n)

refusals_alike : (chains : List Chain) (files : List IptChain) → AreNamedAlike chains files → (o : Option IptRefusal)
    → option_map (named_refusal chains) (option_map refused_behind o) ≡ option_map (ipt_named_refusal files) o
refusals_alike chains files alike None = refl
refusals_alike chains files alike (Some r) = ap Some (refusal_alike chains files alike r)

-- a diagram is refused as its configuration
pub refused_alike : (d : Ifcl) (files : List IptChain) (o : Option IptRefusal) → AreNamedAlike d.chains files → refusal_of d ≡ option_map refused_behind o
    → diagram_refusal d ≡ option_map (ipt_named_refusal files) o
refused_alike d files o alike e = ap (option_map (named_refusal d.chains)) e ∙ refusals_alike d.chains files alike o

-- what has no refusal by name has none
pub unnamed_unrefused : (files : List IptChain) (o : Option IptRefusal) → option_map (ipt_named_refusal files) o ≡ None → o ≡ None
unnamed_unrefused files None e = refl
unnamed_unrefused files (Some r) e = absurd (cc)

-- What is drawn of a configuration that some text spells

pub drawn_ok : {D E : Type 0} → (result : Result D E) (diagram : D → Ifcl) (c : IptConfig) → IsDrawable c
    → IfOk result (λ x. is_fitting c ≡ true → ifcl_ok (diagram x) ≡ true) → IfOk result (λ x. ifcl_ok (diagram x) ≡ true)
drawn_ok (Ok x) diagram c drawable ok = ok drawable.fitting
drawn_ok (Err e) diagram c drawable ok = tt

pub drawn_refused : {D E : Type 0} → (result : Result D E) (diagram : D → Ifcl) (site : Site) (c : IptConfig) → IsDrawable c
    → IfOk result (λ x. KeepsChains (diagram x) site c) → IfOk result (λ x. KeepsRefusals (diagram x) site c) → IfOk result (λ x. diagram_refusal (diagram x) ≡ ipt_refusal site c)
drawn_refused (Ok x) diagram site c drawable chains refused = refused_alike (diagram x) c.chains (ipt_refusal_of site c) chains.names (refused drawable.met)
drawn_refused (Err e) diagram site c drawable chains refused = tt

pub drawn_means : {D E : Type 0} → (result : Result D E) (diagram : D → Ifcl) (site : Site) (c : IptConfig) → IsDrawable c → (ipt_refusal_of site c ≡ None → NoLoop c.chains)
    → IfOk result (λ x. KeepsWalks (diagram x) site c) → IfOk result (λ x. ipt_refusal site c ≡ None → Draws (diagram x) site (ipt_walk c site))
drawn_means (Ok x) diagram site c drawable no_loop keeps =
    λ unrefused. keeps drawable.fitting drawable.sideless drawable.netmaps_placed (no_loop (unnamed_unrefused c.chains (ipt_refusal_of site c) unrefused))
drawn_means (Err e) diagram site c drawable no_loop keeps = tt

pub drawn_shows : {D E : Type 0} → (result : Result D E) (diagram : D → Ifcl) (spots : D → List Spot) (site : Site) (c : IptConfig) → IsDrawable c
    → (ipt_refusal_of site c ≡ None → NoLoop c.chains) → IfOk result (λ x. KeepsUses (diagram x) (spots x) site c)
    → IfOk result (λ x. ipt_refusal site c ≡ None → ShowsUses (diagram x) (spots x) site (ipt_used c site))
drawn_shows (Ok x) diagram spots site c drawable no_loop keeps =
    λ unrefused. keeps drawable.fitting drawable.sideless drawable.netmaps_placed (no_loop (unnamed_unrefused c.chains (ipt_refusal_of site c) unrefused))
drawn_shows (Err e) diagram spots site c drawable no_loop keeps = tt
