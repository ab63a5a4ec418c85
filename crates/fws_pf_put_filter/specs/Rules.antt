-- The rules that filters are made of.
use Rattle.std.specs.Prelude.{◌≡◌, ◌⊎◌, ℕ, Bool, true, false, Some, None, List, [], ◌∷◌, ◌++◌, map, slice_get, slice_index_or}
use Rattle.fws_iv.specs.declared.iv.Iv.{Iv}
use Rattle.fws_net.specs.declared.condition.Lit.{Lit}
use Rattle.fws_net.specs.declared.outcome.Outcome.{Outcome}
use Rattle.fws_net.specs.declared.outcome.Outcome.TheVariants.{Accept, Drop}
use Rattle.fws_pf.specs.declared.config.PfRule.{PfRule}
use Rattle.fws_pf.specs.declared.config.Way.{Way}
use Rattle.fws_pf.specs.declared.config.Way.TheVariants.{Both}
use Rattle.fws_tree.specs.declared.node.Kid.{Kid}
use Rattle.fws_tree.specs.declared.node.Node.{Node}
use Rattle.fws_tree.specs.declared.node.Node.TheVariants.{Leaf, Cut}
use Rattle.fws_pf_put_filter.specs.declared.tested.Tested.{Tested}
use Rattle.fws_pf_put_filter.specs.Conds.{way_of, AreConds}
use Rattle.fws_pf_put_filter.specs.Literals.{tag_lit}
use Rattle.fws_pf_put_filter.specs.States.{state_at, IsLeafNode}

-- every packet is blocked, unless a later rule matches
abbrev pub block_all : PfRule
block_all = record { pass = false; way = Both; quick = false; cond = []; tag = None; keep = false }

-- packets of a state for which the condition holds move to another state
abbrev pub moved : Way → ℕ → ℕ → List Lit → PfRule
moved way from to cond = record { pass = false; way = way; quick = false; cond = cond ++ tag_lit from ∷ []; tag = Some to; keep = false }

-- a rule for each condition
abbrev pub moves : Way → ℕ → ℕ → List (List Lit) → List PfRule
moves way from to conds = map (moved way from to) conds

-- packets of a state pass
abbrev pub passing : ℕ → PfRule
passing n = record { pass = true; way = Both; quick = false; cond = tag_lit n ∷ []; tag = None; keep = true }

-- the outcome accepts packets
abbrev pub accepts : Outcome → Bool
accepts Drop = false
accepts (Accept w) = true

-- the leaf with such an outcome, if the node is one
abbrev pub accepts_leaf : List Outcome → Node → Bool
accepts_leaf leaves (Leaf i) = accepts (slice_index_or leaves i Drop)
accepts_leaf leaves (Cut f kids) = false

-- the rules for a kid of a node move what hits its set to its state; a kid of the default state has none
abbrev pub AreKidRules : Tested → ℕ → ℕ → ℕ → List Iv → List PfRule → Type 0
AreKidRules tested n d state set block =
    ((state ≡ d) × (block ≡ [])) ⊎ ((conds : List (List Lit)) × AreConds tested set conds × (block ≡ moves (way_of tested) n state conds))

-- the rules for one kid after another
abbrev pub AreAllKidRules : Tested → List ℕ → ℕ → ℕ → List Kid → List PfRule → Type 0
AreAllKidRules tested states n d [] block = block ≡ []
AreAllKidRules tested states n d (kid ∷ kids) block =
    (first : List PfRule) × (rest : List PfRule) × (block ≡ first ++ rest) × AreKidRules tested n d (state_at states kid.node) kid.set first
    × AreAllKidRules tested states n d kids rest

-- the last rule of a node moves all other packets to the default state; it is left out where they are dropped there
abbrev pub IsLastRule : List Outcome → List Node → Way → ℕ → ℕ → List PfRule → Type 0
IsLastRule leaves nodes way n d block = ((block ≡ []) × IsLeafNode leaves nodes d Drop) ⊎ (block ≡ moved way n d [] ∷ [])

-- some kid has the state
abbrev pub IsKidState : List ℕ → List Kid → ℕ → Type 0
IsKidState states kids d = (i : ℕ) × (kid : Kid) × (slice_get kids i ≡ Some kid) × (state_at states kid.node ≡ d)

-- the rules of a cut: those of kids, if rules test its field, and the last one
pub record AreTestedRules (leaves : List Outcome) (nodes : List Node) (states : List ℕ) (tested : Tested) (n : ℕ) (kids : List Kid) (block : List PfRule) : Type 0 where
  pub default : ℕ
  pub is_kid : IsKidState states kids default
  pub tests : List PfRule
  pub last : List PfRule
  pub all : block ≡ tests ++ last
  pub sorted : AreAllKidRules tested states n default kids tests
  pub ends : IsLastRule leaves nodes (way_of tested) n default last

pub record AreUntestedRules (leaves : List Outcome) (nodes : List Node) (states : List ℕ) (n : ℕ) (kids : List Kid) (block : List PfRule) : Type 0 where
  pub default : ℕ
  pub is_kid : IsKidState states kids default
  pub ends : IsLastRule leaves nodes Both n default block
