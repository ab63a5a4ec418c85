-- The rules of a diagram to which rules of OpenBSD's pf are unfolded.
use Rattle.std.specs.Prelude.{◌≡◌, ℕ, zero, suc, ◌+◌, Bool, true, false, not, ◌&&◌, ◌||◌, nat_eq, Option, Some, None, is_some, List, [], ◌∷◌, ◌++◌, length, map, take, drop, if◌then◌else◌}
use Rattle.std.specs.Option.{option_map_or}
use Rattle.fws_net.specs.declared.condition.Lit.{Lit}
use Rattle.fws_net.specs.declared.outcome.End.{End}
use Rattle.fws_ifcl.specs.declared.diagram.Act.{Act}
use Rattle.fws_ifcl.specs.declared.diagram.Act.TheVariants.{Accept, Drop, Hold, Src, Dst, AddTag, OnlyTag, DelTag}
use Rattle.fws_ifcl.specs.declared.diagram.Rule.{Rule}
use Rattle.fws_ifcl_rules.specs.Rules.{ruled, always, guarded}
use Rattle.fws_pf.specs.Walk.{is_met}
use Rattle.fws_pfo.specs.declared.config.PfoKind.{PfoKind}
use Rattle.fws_pfo.specs.declared.config.PfoKind.TheVariants.{Pass, Block, Match}
use Rattle.fws_pfo.specs.declared.config.PfoRule.{PfoRule}
use Rattle.fws_pfo_ifcl.specs.declared.frame.Frame.{Frame}
use Rattle.fws_pfo_ifcl.specs.declared.ruling.Ruling.{Ruling}
use Rattle.fws_pfo_ifcl.specs.Ends.{end_of, number_of}
use Rattle.fws_pfo_ifcl.specs.Held.{bits_of, telling, told}
use Rattle.fws_pfo_ifcl.specs.Rulings.{StandFor}

-- What rules do

-- the end over the source as packets go out, and over the destination as they come in
abbrev pub writing : Bool → Option End → List Act
writing outward to = option_map_or (λ e. (if outward then Src e else Dst e) ∷ []) to []

-- a tag becomes the only one, and no end is held any more
abbrev pub only_tag : Option ℕ → List Act
only_tag tag = option_map_or (λ n. OnlyTag n ∷ []) tag []

-- a tag is taken away, unless it is this one
abbrev pub without_other : ℕ → ℕ → List Act
without_other n tag = if nat_eq n tag then [] else DelTag tag ∷ []

-- of so many tags from one on all are taken away but this one
abbrev pub without_others : ℕ → ℕ → ℕ → List Act
without_others n first zero = []
without_others n first (suc more) = without_other n first ++ without_others n (suc first) more

-- a tag is put: where no end can be held it becomes the only one, else the only one of the names
abbrev pub tagging : Frame → Bool → Option ℕ → List Act
tagging f may None = []
tagging f may (Some n) = if may then without_others n 0 f.tags ++ AddTag n ∷ [] else OnlyTag n ∷ []

-- the end is held, or none is
abbrev pub holding : Frame → Option End → List Act
holding f to = telling f.tags (bits_of f.bits (number_of f.ends to))

-- a rule that isn't quick, behind rules of which one may have held an end
abbrev pub changes : Frame → Bool → Option ℕ → Option End → PfoKind → List Act
changes f may tag to Pass = Hold true ∷ only_tag tag ++ holding f to
changes f may tag to Block = Hold false ∷ only_tag tag ++ holding f None
changes f may tag to Match = tagging f may tag ++ writing f.outward to

-- how packets pass with an end or none, or are dropped
abbrev pub decision : Bool → Option End → Bool → List Act
decision outward to true = writing outward to ++ Accept ∷ []
decision outward to false = Drop ∷ []

-- one that is quick
abbrev pub ending : Frame → Option ℕ → Option End → PfoKind → List Act
ending f tag to Pass = only_tag tag ++ writing f.outward to ++ Accept ∷ []
ending f tag to Block = Drop ∷ []
ending f tag to Match = []

abbrev pub acts_of : Frame → Bool → PfoRule → List Act
acts_of f may r = if r.quick then ending f r.tag r.to r.kind else changes f may r.tag r.to r.kind

-- The rules of acts: one where a condition holds, or several met where it holds, of which the first has the place at

-- no condition tells what verdict is held
abbrev pub is_hold : Act → Bool
is_hold (Hold passes) = true
is_hold _ = false

-- so that one act behind a verdict that is held can have the same condition
abbrev pub acting : ℕ → List Lit → List Act → List Rule
acting at cond [] = []
acting at cond (act ∷ []) = ruled cond act ∷ []
acting at cond (act ∷ next ∷ []) =
    if is_hold act then ruled cond act ∷ ruled cond next ∷ [] else guarded at cond (map always (act ∷ next ∷ []))
acting at cond (act ∷ next ∷ third ∷ acts) = guarded at cond (map always (act ∷ next ∷ third ∷ acts))

-- Rules in their order

-- the rules of one that is met on the pass; none of one that isn't
abbrev pub met_rule : Frame → Bool → ℕ → PfoRule → List Rule
met_rule f may at r = if is_met r.way f.outward then acting at r.cond (acts_of f may r) else []

-- the rules of rules, of which the first has the place at
abbrev pub met_rules : Frame → Bool → ℕ → List PfoRule → List Rule
met_rules f may at [] = []
met_rules f may at (r ∷ rs) =
    met_rule f may at r ++ met_rules f (may || is_some (end_of f.outward r)) (at + length (met_rule f may at r)) rs

-- The tail: the rules behind the last one that is met and changes what rules behind it see

abbrev pub writes_at_once : PfoKind → Bool → Bool
writes_at_once Pass has_end = false
writes_at_once Block has_end = false
writes_at_once Match has_end = has_end

abbrev pub changes_sight : Bool → PfoRule → Bool
changes_sight outward r = is_met r.way outward && (is_some r.tag || writes_at_once r.kind (is_some r.to))

-- the place behind the last such rule, of which the first has the place at; without one the place so far
abbrev pub behind_changes : Bool → ℕ → ℕ → List PfoRule → ℕ
behind_changes outward place at [] = place
behind_changes outward place at (r ∷ rs) = behind_changes outward (if changes_sight outward r then at + 1 else place) (at + 1) rs

-- the place at which the tail begins
abbrev pub tail_place : Bool → List PfoRule → ℕ
tail_place outward rs = behind_changes outward 0 0 rs

-- what a rule of the kind decides where its condition holds
abbrev pub ruling_by : PfoKind → List Lit → Option End → List Ruling
ruling_by Pass cond to = record { cond = cond; passes = true; to = to } ∷ []
ruling_by Block cond to = record { cond = cond; passes = false; to = None } ∷ []
ruling_by Match cond to = []

-- what a rule decides, if it is to
abbrev pub deciding : Bool → PfoRule → List Ruling
deciding decides r = if decides then ruling_by r.kind r.cond r.to else []

abbrev pub decides_first : Bool → PfoRule → Bool
decides_first outward r = is_met r.way outward && r.quick

abbrev pub decides_last : Bool → PfoRule → Bool
decides_last outward r = is_met r.way outward && not r.quick

-- that of those that are quick, in their order
abbrev pub quick_rulings : Bool → List PfoRule → List Ruling
quick_rulings outward [] = []
quick_rulings outward (r ∷ rs) = deciding (decides_first outward r) r ++ quick_rulings outward rs

-- that of those that aren't, the last one first
abbrev pub slow_rulings : Bool → List PfoRule → List Ruling
slow_rulings outward [] = []
slow_rulings outward (r ∷ rs) = slow_rulings outward rs ++ deciding (decides_last outward r) r

-- no rule of the tail changes what another one sees, so that the first quick one that matches decides, else the last of the others
abbrev pub tail_rulings : Bool → List PfoRule → List Ruling
tail_rulings outward rs = quick_rulings outward rs ++ slow_rulings outward rs

-- the rules of a ruling, of which the first has the place at
abbrev pub ruling_rules : Bool → ℕ → Ruling → List Rule
ruling_rules outward at one = acting at one.cond (decision outward one.to one.passes)

-- those of rulings, one after another
abbrev pub tail_rules : Bool → ℕ → List Ruling → List Rule
tail_rules outward at [] = []
tail_rules outward at (one ∷ more) = ruling_rules outward at one ++ tail_rules outward (at + length (ruling_rules outward at one)) more

-- The ends that are held

-- where the tags tell the number of an end, it is written, and the pass ends accepted
abbrev pub held_rule : Frame → ℕ → ℕ → End → List Rule
held_rule f at n e = acting at (told f.tags (bits_of f.bits n)) (decision f.outward (Some e) true)

-- those of ends, of which the first has the number n
abbrev pub held_rules : Frame → ℕ → ℕ → List End → List Rule
held_rules f at n [] = []
held_rules f at n (e ∷ ends) = held_rule f at n e ++ held_rules f (at + length (held_rule f at n e)) (suc n) ends

-- All rules

-- those ahead of the tail and those of the tail
abbrev pub head_of : Bool → List PfoRule → List PfoRule
head_of outward rs = take (tail_place outward rs) rs

abbrev pub tail_of : Bool → List PfoRule → List PfoRule
tail_of outward rs = drop (tail_place outward rs) rs

-- rulings stand for those of the tail
abbrev pub IsTail : Bool → List PfoRule → List Ruling → Type 0
IsTail outward rs tail = StandFor tail (tail_rulings outward (tail_of outward rs))

-- the rules of those ahead of the tail in their order, those of these rulings for the tail, and the ends that are held behind them
abbrev pub ahead_rules : Frame → ℕ → List PfoRule → List Rule
ahead_rules f at rs = met_rules f false at (head_of f.outward rs)

abbrev pub deciding_rules : Frame → ℕ → List PfoRule → List Ruling → List Rule
deciding_rules f at rs tail = ahead_rules f at rs ++ tail_rules f.outward (at + length (ahead_rules f at rs)) tail

abbrev pub filter_rules : Frame → ℕ → List PfoRule → List Ruling → List Rule
filter_rules f at rs tail = deciding_rules f at rs tail ++ held_rules f (at + length (deciding_rules f at rs tail)) 1 f.ends

-- rules are behind others of rulings that stand for those of the rules of a tail
pub record EndsIn (outward : Bool) (tail : List PfoRule) (ahead rules : List Rule) : Type 0 where
  pub rulings : List Ruling
  pub stand : StandFor rulings (tail_rulings outward tail)
  pub are : rules ≡ ahead ++ tail_rules outward (length ahead) rulings

-- the rules of all rules are behind others, with rulings that stand for those of the tail
pub record IsFiltered (f : Frame) (rs : List PfoRule) (ahead rules : List Rule) : Type 0 where
  pub tail : List Ruling
  pub stands : IsTail f.outward rs tail
  pub are : rules ≡ ahead ++ filter_rules f (length ahead) rs tail
