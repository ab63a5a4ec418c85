use Rattle.std.proofs.Common.{subst, take}
use Rattle.fws_pf_words.specs.declared.known_uses.Source.{Source}
use Rattle.fws_pf_words.specs.Uses.{words_named}
use Rattle.fws_pf_words.specs.UsesKnown.{ArePiece, front_named}
use Rattle.fws_pf_words.proofs.Leading.{ways_grown}
use Rattle.fws_pf_words.proofs.known_uses.KnownUses.take.Goals as goal

pub returns-in_ok-n-in-Whole-clause-known : goal.returns-in_ok-n-in-Whole-clause-known
returns-in_ok-n-in-Whole-clause-known c = λ macros piece are.
    let same = subst (λ (s : Source). ArePiece macros s c.args.name.now c.args.words.now) c.in-Whole.is piece in (
      c.in_ok-n-in-Whole.ensures.known (words_named macros) same are.0,
      ways_grown c.args.setting.now (front_named macros) (take c.in_ok-n-in-Whole.n c.args.words.now) c.args.value.now c.take.new.value c.args.self.now.fronts.ways.entries
          (c.in_ok-n-in-Whole.ensures.taken (words_named macros) same are.0) are.1,
    )

pub returns-in_ok-n-in-Front-clause-known : goal.returns-in_ok-n-in-Front-clause-known
returns-in_ok-n-in-Front-clause-known c = λ macros piece are.
    let same = subst (λ (s : Source). ArePiece macros s c.args.name.now c.args.words.now) c.in-Front.is piece in (
      ways_grown c.args.setting.now (words_named macros) (take c.in_ok-n-in-Front.n c.args.words.now) c.args.value.now c.take-in-Front.new.value c.args.self.now.wholes.ways.entries
          (c.in_ok-n-in-Front.ensures.taken (front_named macros) same are.1) are.0,
      c.in_ok-n-in-Front.ensures.known (front_named macros) same are.1,
    )

pub returns-in_ok-n-in-Other-clause-known : goal.returns-in_ok-n-in-Other-clause-known
returns-in_ok-n-in-Other-clause-known c = λ macros piece are. (
  ways_grown c.args.setting.now (words_named macros) (take c.in_ok-n-in-Other.n c.args.words.now) c.args.value.now c.words_within.new.self c.args.self.now.wholes.ways.entries
      c.in_ok-n-in-Other.ensures.taken are.0,
  ways_grown c.args.setting.now (front_named macros) (take c.in_ok-n-in-Other.n c.args.words.now) c.args.value.now c.words_within.new.self c.args.self.now.fronts.ways.entries
      c.in_ok-n-in-Other.ensures.taken are.1,
)
