-- What the text of a configuration means at a site: it is refused, or it makes something of each packet.
use Rattle.std.specs.Prelude.{◌≡◌, ℕ, ◌+◌, ◌≤◌, Bool, Option, Some, None, Result, Ok, Err, List, [], length, slice_get}
use Rattle.std.specs.Option.{option_map, option_map_or}
use Rattle.fws_ifcl.specs.declared.diagram.Chain.{Chain}
use Rattle.fws_ifcl.specs.declared.diagram.Ifcl.{Ifcl}
use Rattle.fws_ifcl.specs.declared.refusal.UnfoldRefusal.{UnfoldRefusal}
use Rattle.fws_ifcl.specs.declared.refusal.UnfoldRefusal.TheVariants.{Loop, Deep, Long}
use Rattle.fws_ifcl.specs.Refusals.{refusal_of}
use Rattle.fws_ios.specs.declared.config.IosConfig.{IosConfig}
use Rattle.fws_ios.specs.FileText.{spelled as ios_spelled}
use Rattle.fws_ios.specs.Uses.{used as ios_used}
use Rattle.fws_ios.specs.Walk.{walk as ios_walk}
use Rattle.fws_ios_print.specs.Labels.{labels_of as ios_labels}
use Rattle.fws_ios_put.specs.Placed.{tracks as ios_tracks}
use Rattle.fws_ipfw.specs.declared.config.IpfwConfig.{IpfwConfig}
use Rattle.fws_ipfw.specs.FileText.{spelled as ipfw_spelled}
use Rattle.fws_ipfw.specs.Uses.{used as ipfw_used}
use Rattle.fws_ipfw.specs.Walk.{walk as ipfw_walk}
use Rattle.fws_ipfw_print.specs.Labels.{labels_of as ipfw_labels}
use Rattle.fws_ipfw_put.specs.Placed.{tracks as ipfw_tracks}
use Rattle.fws_ipt.specs.declared.config.IptChain.{IptChain}
use Rattle.fws_ipt.specs.declared.config.IptConfig.{IptConfig}
use Rattle.fws_ipt.specs.declared.refusal.UnfoldRefusal.{UnfoldRefusal as IptRefusal}
use Rattle.fws_ipt.specs.declared.refusal.UnfoldRefusal.TheVariants as ipt
use Rattle.fws_ipt.specs.FileText.{spelled as ipt_spelled}
use Rattle.fws_ipt.specs.Refusals.{refusal_of as ipt_refusal_of}
use Rattle.fws_ipt.specs.Uses.{used as ipt_used}
use Rattle.fws_ipt.specs.Walk.{walk as ipt_walk}
use Rattle.fws_ipt_print.specs.Labels.{labels_of as ipt_labels}
use Rattle.fws_ipt_put.specs.Placed.{tracks as ipt_tracks}
use Rattle.fws_net.specs.declared.cause.Cause.{Cause}
use Rattle.fws_net.specs.declared.packet.Packet.{Packet}
use Rattle.fws_net.specs.declared.site.Site.{Site}
use Rattle.fws_net.specs.Reading.{Refusal}
use Rattle.fws_pf.specs.declared.config.PfConfig.{PfConfig}
use Rattle.fws_pf.specs.FileText.{spelled as pf_spelled}
use Rattle.fws_pf.specs.Uses.{used as pf_used}
use Rattle.fws_pf.specs.Walk.{walk as pf_walk}
use Rattle.fws_pf_print.specs.Labels.{labels_of as pf_labels}
use Rattle.fws_pf_put.specs.Placed.{tracks as pf_tracks}
use Rattle.fws_pfo.specs.declared.config.PfoConfig.{PfoConfig}
use Rattle.fws_pfo.specs.FileText.{spelled as pfo_spelled}
use Rattle.fws_pfo.specs.Tracks.{tracks as pfo_tracks}
use Rattle.fws_pfo.specs.Walk.{walk as pfo_walk}
use Rattle.fws_top.specs.declared.lang.SourceLang.{SourceLang}
use Rattle.fws_top.specs.declared.lang.SourceLang.TheVariants.{Iptables, Ipfw, Pf, Ios, Openbsd}
use Rattle.fws_top.specs.Lines.{line_words, loop_words, deep_words, long_words, cause_text}
use Rattle.fws_top.specs.Walked.{Uses, Walk}

-- Refusals for the chains

-- why chains can't be unfolded, with the name of a chain: it reaches itself, a path from it is too deep, or the rules
-- become too many there
pub data ChainRefusal : Type 0 where
  loop_at : List ℕ → ChainRefusal
  deep_at : List ℕ → ChainRefusal
  long_at : List ℕ → ChainRefusal

-- the words that say so
abbrev pub chain_words : ChainRefusal → List ℕ
chain_words (loop_at name) = loop_words name
chain_words (deep_at name) = deep_words name
chain_words (long_at name) = long_words name

-- the name of a diagram's chain
abbrev pub chain_name : List Chain → ℕ → List ℕ
chain_name chains n = option_map_or (λ chain. chain.name) (slice_get chains n) []

-- the refusal at the chain with this number
abbrev pub named_refusal : List Chain → UnfoldRefusal → ChainRefusal
named_refusal chains (Loop n) = loop_at (chain_name chains n)
named_refusal chains (Deep n) = deep_at (chain_name chains n)
named_refusal chains (Long n) = long_at (chain_name chains n)

-- why a diagram can't be unfolded
abbrev pub diagram_refusal : Ifcl → Option ChainRefusal
diagram_refusal d = option_map (named_refusal d.chains) (refusal_of d)

-- the name of a chain of iptables
abbrev pub ipt_chain_name : List IptChain → ℕ → List ℕ
ipt_chain_name chains n = option_map_or (λ chain. chain.name) (slice_get chains n) []

abbrev pub ipt_named_refusal : List IptChain → IptRefusal → ChainRefusal
ipt_named_refusal chains (ipt.Loop n) = loop_at (ipt_chain_name chains n)
ipt_named_refusal chains (ipt.Deep n) = deep_at (ipt_chain_name chains n)
ipt_named_refusal chains (ipt.Long n) = long_at (ipt_chain_name chains n)

-- why a configuration of iptables can't be unfolded on a site
abbrev pub ipt_refusal : Site → IptConfig → Option ChainRefusal
ipt_refusal site c = option_map (ipt_named_refusal c.chains) (ipt_refusal_of site c)

-- a configuration of ipfw has no chains, and can always be unfolded
abbrev pub ipfw_refusal : Site → IpfwConfig → Option ChainRefusal
ipfw_refusal site c = None

-- nor has one of pf
abbrev pub pf_refusal : Site → PfConfig → Option ChainRefusal
pf_refusal site c = None

-- nor one of Cisco IOS
abbrev pub ios_refusal : Site → IosConfig → Option ChainRefusal
ios_refusal site c = None

-- nor one of pf of OpenBSD
abbrev pub pfo_refusal : Site → PfoConfig → Option ChainRefusal
pfo_refusal site c = None

-- Judging

-- a packet of the site: it comes from the host, loopback or an interface
abbrev pub IsPacketOf : Site → Packet → Type 0
IsPacketOf site p = p.entry ≤ length site.faces + 1

-- what a configuration means at a site: what becomes of a packet of a class; whether the configuration keeps state where it
-- accepts, so that a run lists a connection for each new packet that it accepts; the numbers of the rules that a packet's walk uses,
-- in their order; and the labels of all its rules, of which the first has the number 0
pub record Policy : Type 0 where
  pub walk : Walk
  pub tracks : Bool
  pub used : Uses
  pub labels : List (List ℕ)

-- what a configuration means by its walk, whether it tracks, which rules it uses and how these are labelled
abbrev pub meant_by : {C : Type 0} → (C → Walk) → (C → Bool) → (C → Uses) → (C → List (List ℕ)) → C → Policy
meant_by walk tracks used labels config = record { walk = walk config; tracks = tracks config; used = used config; labels = labels config }

abbrev pub ipt_meant : Site → IptConfig → Policy
ipt_meant site = meant_by (λ config. ipt_walk config site) (ipt_tracks site) (λ config. ipt_used config site) ipt_labels

abbrev pub ipfw_meant : Site → IpfwConfig → Policy
ipfw_meant site = meant_by (λ config. ipfw_walk config site) (ipfw_tracks site) (λ config. ipfw_used config site) ipfw_labels

abbrev pub pf_meant : Site → PfConfig → Policy
pf_meant site = meant_by (λ config. pf_walk config site) (pf_tracks site) (λ config. pf_used config site) pf_labels

abbrev pub ios_meant : Site → IosConfig → Policy
ios_meant site = meant_by (λ config. ios_walk config site) (ios_tracks site) (λ config. ios_used config site) ios_labels

-- no command asks for its rules: they have no labels, and no packet uses any
abbrev pub pfo_meant : Site → PfoConfig → Policy
pfo_meant site = meant_by (λ config. pfo_walk config site) (pfo_tracks site) (λ config p k. []) (λ config. [])

-- what each text spells, or its first refused line
abbrev pub Spelling : Type 0 → Type 0
Spelling C = List ℕ → Result C (Refusal Cause)

-- a text is refused with these words, or accepted with what it means
pub data Judged : Type 0 where
  refused : List ℕ → Judged
  accepted : Policy → Judged

-- a configuration whose chains can't be unfolded is refused
abbrev pub judged_chains : Option ChainRefusal → Policy → Judged
judged_chains None policy = accepted policy
judged_chains (Some refusal) policy = refused (chain_words refusal)

-- the first bad line is refused, then the chains; what is left means what its configuration does
abbrev pub judged_by : {C : Type 0} → (C → Option ChainRefusal) → (C → Policy) → Result C (Refusal Cause) → Judged
judged_by refusal meant (Err r) = refused (line_words r.line (cause_text r.cause))
judged_by refusal meant (Ok config) = judged_chains (refusal config) (meant config)

-- A language by what it says of its texts and configurations

-- what a configuration means at a site
abbrev pub meant_in : {C : Type 0} → (C → Site → Walk) → (Site → C → Bool) → (C → Site → Uses) → (C → List (List ℕ)) → Site → C → Policy
meant_in walk tracks used labels site = meant_by (λ config. walk config site) (tracks site) (λ config. used config site) labels

-- what a text means at a site
abbrev pub judged_in : {C : Type 0} → (Site → Spelling C) → (Site → C → Option ChainRefusal) → (C → Site → Walk) → (Site → C → Bool)
    → (C → Site → Uses) → (C → List (List ℕ)) → Site → List ℕ → Judged
judged_in spelled refusal walk tracks used labels site text =
    judged_by (refusal site) (meant_in walk tracks used labels site) (spelled site text)

-- the configuration is that of some text
abbrev pub HasText : {C : Type 0} → Spelling C → C → Type 0
HasText spelled config = (text : List ℕ) × (spelled text ≡ Ok config)

-- the text is that of some configuration
abbrev pub HasConfig : {C : Type 0} → Spelling C → List ℕ → Type 0
HasConfig {C} spelled text = (config : C) × (spelled text ≡ Ok config)

-- what a text means in a language at a site
abbrev pub judge : SourceLang → Site → List ℕ → Judged
judge Iptables site text = judged_by (ipt_refusal site) (ipt_meant site) (ipt_spelled site text)
judge Ipfw site text = judged_by (ipfw_refusal site) (ipfw_meant site) (ipfw_spelled site text)
judge Pf site text = judged_by (pf_refusal site) (pf_meant site) (pf_spelled site text)
judge Ios site text = judged_by (ios_refusal site) (ios_meant site) (ios_spelled site text)
judge Openbsd site text = judged_by (pfo_refusal site) (pfo_meant site) (pfo_spelled site text)
