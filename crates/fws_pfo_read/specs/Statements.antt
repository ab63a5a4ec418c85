-- What was read so far of a statement, as the reader has it.
use Rattle.std.specs.Prelude.{◌≡◌, ℕ, Result, List, []}
use Rattle.fws_net.specs.declared.answer.LineFault.{LineFault}
use Rattle.fws_net.specs.declared.cause.Cause.{Cause}
use Rattle.fws_pf.specs.declared.value_draft.Item.{Item}
use Rattle.fws_pf_read.specs.Taking.{SaidGiven}
use Rattle.fws_pf_words.specs.TableSteps.{table_seen}
use Rattle.fws_pfo.specs.declared.statement.PfoStatement.{PfoStatement}
use Rattle.fws_pfo.specs.declared.statement.PfoStatement.TheVariants as any
use Rattle.fws_pfo_read.specs.declared.statement.Statement.{Statement}
use Rattle.fws_pfo_read.specs.declared.statement.Statement.TheVariants as own
use Rattle.fws_pfo_read.specs.Views.{draft_of}

-- the statement
abbrev pub seen : Statement → PfoStatement
seen own.Begun = any.Begun
seen (own.Rule d) = any.Rule (draft_of d)
seen (own.Table d) = any.Table (table_seen d)
seen own.Set = any.Set
seen own.Skip = any.Skip
seen (own.SkipOn v) = any.SkipOn v
seen own.Idle = any.Idle

-- the values so far of the list at which a statement is
abbrev pub items_of : PfoStatement → List Item
items_of (any.Rule d) = d.shared.value.items
items_of (any.Table d) = d.members.items
items_of (any.SkipOn v) = v.items
items_of _ = []

-- a statement is what reading gives, unless memory ran out
abbrev pub StatementGiven : Result Statement (LineFault Cause) → Result PfoStatement Cause → Type 0
StatementGiven result read = SaidGiven seen result read

-- these are the tags of the text, unless a rule has them already
abbrev pub AreTags : List (List ℕ) → Statement → List (List ℕ) → Type 0
AreTags tags (own.Rule d) kept = Unit {0}
AreTags tags _ kept = kept ≡ tags
