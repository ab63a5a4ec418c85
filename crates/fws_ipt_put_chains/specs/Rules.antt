-- The rules of the chain of a node.
use Rattle.std.specs.Prelude.{◌≡◌, ℕ, true, None, List, [], ◌∷◌, ◌++◌, map, slice_index_or, MatchOption}
use Rattle.fws_net.specs.declared.condition.Lit.{Lit}
use Rattle.fws_ipt.specs.declared.config.IptChain.{IptChain}
use Rattle.fws_ipt.specs.declared.config.IptGo.{IptGo}
use Rattle.fws_ipt.specs.declared.config.IptGo.TheVariants.{Drop}
use Rattle.fws_ipt.specs.declared.config.IptRule.{IptRule}
use Rattle.fws_ipt.specs.declared.config.IptTable.{IptTable}
use Rattle.fws_tree.specs.declared.node.Kid.{Kid}
use Rattle.fws_ipt_print.specs.Printable.{is_chain_name}
use Rattle.fws_tree_seen.specs.declared.field.PacketField.{PacketField}
use Rattle.fws_tree_seen.specs.declared.seen.Seen.{Seen}
use Rattle.fws_tree_seen.specs.Shown.{seen_field}
use Rattle.fws_ipt_put_chains.specs.declared.coming.Coming.{Coming}
use Rattle.fws_ipt_put_chains.specs.Blocks.{EndsInNumber}
use Rattle.fws_ipt_put_chains.specs.Pieces.{ArePieces}

-- the act of the node with this number
abbrev pub act_at : List IptGo → ℕ → IptGo
act_at acts k = slice_index_or acts k Drop

-- a rule for each condition, which all do the same
abbrev pub rules_of : IptGo → List (List Lit) → List IptRule
rules_of go conds = map (λ cond. record { cond = cond; go = go }) conds

-- for one kid after another, rules that send what hits its set to its node
abbrev pub AreKidRules : Coming → PacketField → List IptGo → List Kid → List IptRule → Type 0
AreKidRules coming field acts [] rules = rules ≡ []
AreKidRules coming field acts (kid ∷ kids) rules =
    (conds : List (List Lit)) × (rest : List IptRule) × (rules ≡ rules_of (act_at acts kid.node) conds ++ rest)
    × ArePieces coming field kid.set conds × AreKidRules coming field acts kids rest

-- the rules of a cut: those of all kids but one, and last a rule without a test that sends all else to the node of that one.
-- Where nothing is seen in place of the field, only the last rule stands
pub record AreCutRules (seen : Seen) (f : ℕ) (coming : Coming) (acts : List IptGo) (kids : List Kid) (rules : List IptRule) : Type 0 where
  pub front : List Kid
  pub other : Kid
  pub back : List Kid
  pub split : kids ≡ front ++ other ∷ back
  pub tests : List IptRule
  pub all : rules ≡ tests ++ record { cond = []; go = act_at acts other.node } ∷ []
  pub sorted : MatchOption (seen_field seen f) (tests ≡ []) (λ field. AreKidRules coming field acts (front ++ back) tests)

-- the chain of a cut, behind so many chains
pub record IsCutChain (table : IptTable) (number : ℕ) (seen : Seen) (f : ℕ) (coming : Coming) (acts : List IptGo) (kids : List Kid) (chain : IptChain) : Type 0 where
  pub table_is : chain.table ≡ table
  pub policy_is : chain.policy ≡ None
  pub name_is : is_chain_name chain.name ≡ true
  pub named : EndsInNumber number chain.name
  pub rules : AreCutRules seen f coming acts kids chain.rules
