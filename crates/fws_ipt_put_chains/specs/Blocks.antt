-- Chains that are put behind others.
use Rattle.std.specs.Prelude.{◌≡◌, ℕ, ◌+◌, ◌≤◌, true, Some, None, List, ◌∷◌, ◌++◌, length, All, slice_get}
use Rattle.std.specs.Fmt.{decimal}
use Rattle.std.specs.List.{list_all}
use Rattle.fws_net.specs.declared.condition.Lit.{Lit}
use Rattle.fws_net.specs.declared.site.Site.{Site}
use Rattle.fws_ipt.specs.declared.config.IptChain.{IptChain}
use Rattle.fws_ipt.specs.declared.config.IptGo.{IptGo}
use Rattle.fws_ipt.specs.declared.config.IptTable.{IptTable}
use Rattle.fws_ipt_print.specs.Printable.{is_name_byte, is_printed_act, is_printed_chain}

-- a name ends in a dash and a number
abbrev pub EndsInNumber : ℕ → List ℕ → Type 0
EndsInNumber k name = (front : List ℕ) × (name ≡ front ++ 45 ∷ decimal k)

-- behind old chains stand further ones of the user's in a table, which can be printed whatever stands behind them; the name of
-- each ends in its number
pub record IsBlock (site : Site) (table : IptTable) (old new : List IptChain) : Type 0 where
  pub block : List IptChain
  pub extends : new ≡ old ++ block
  pub of_table : All (λ chain. (chain.table ≡ table) × (chain.policy ≡ None)) block
  pub printed : (further : List IptChain) → All (λ chain. is_printed_chain site (new ++ further) chain ≡ true) block
  pub named : (k : ℕ) (chain : IptChain) → slice_get block k ≡ Some chain → EndsInNumber (length old + k) chain.name

-- rules of the table may do this, whatever they test and whatever stands behind the chains
abbrev pub IsPrintedAct : IptTable → List IptChain → IptGo → Type 0
IsPrintedAct table chains go =
    (further : List IptChain) (chain : IptChain) (cond : List Lit) → chain.table ≡ table → is_printed_act (chains ++ further) chain cond go ≡ true

-- a part of a chain's name
pub record IsNamePart (part : List ℕ) : Type 0 where
  pub plain : list_all is_name_byte part ≡ true
  pub short : length part ≤ 5
