-- What functions are handed, as definitions take it.
use Rattle.std.specs.Prelude.{◌≡◌, Bool, true, List, ◌++◌, length, ℕ, [], Option, MatchOption}
use Rattle.fws_net.specs.Points.{tops_of}
use Rattle.fws_pf.specs.declared.config.PfNat.{PfNat}
use Rattle.fws_pf_put_nat.specs.Translations.{IsTranslations}
use Rattle.fws_pf_put.specs.declared.drafting.Ground.{Ground}
use Rattle.fws_pf_put.specs.declared.ends.Sources.{Sources}
use Rattle.fws_pf_put.specs.Drafted.{IsFitting}
use Rattle.fws_pf_put.specs.Gathered.{rewrite_at}
use Rattle.fws_pf_put.specs.Sources.{AreSources, IsSourceBlock}
use Rattle.fws_net.specs.declared.outcome.Outcome.{Outcome}
use Rattle.fws_net.specs.declared.outcome.Rewrite.{Rewrite}
use Rattle.fws_tree.specs.declared.node.Node.{Node}

-- what is known of a ground
abbrev pub IsKnown : Ground → Type 0
IsKnown g = IsFitting g.site.now g.tables.now g.leaves.now g.nodes.now g.states.now

-- the translations of a pass
abbrev pub ArePass : Ground → Bool → List PfNat → Type 0
ArePass g outward block = IsTranslations g.site.now (tops_of g.site.now) g.tables.now.fresh.1 g.leaves.now g.nodes.now g.states.now outward block

-- the translations of packets that go out: of forwarded ones by their tags, and behind them those of the host's
abbrev pub AreOutward : Ground → Sources → List PfNat → Type 0
AreOutward g sources nats = (first : List PfNat) × (host : List PfNat) × (nats ≡ first ++ host)
    × AreSources (rewrite_at g.leaves.now g.nodes.now g.states.now) sources.ends.keys sources.sets.items (length g.nodes.now) first
    × ArePass g true host

-- the block for the source of a rewriting, if there is one, and the blocks of all states
abbrev pub IsSourceOf : Sources → ℕ → Option Rewrite → List PfNat → Type 0
IsSourceOf s tag rewrite block = MatchOption rewrite (block ≡ []) (λ w. IsSourceBlock s.ends.keys s.sets.items tag w.src block)

abbrev pub AreStateSources : List Outcome → List Node → List ℕ → Sources → List PfNat → Type 0
AreStateSources leaves nodes states s block = AreSources (rewrite_at leaves nodes states) s.ends.keys s.sets.items (length nodes) block
