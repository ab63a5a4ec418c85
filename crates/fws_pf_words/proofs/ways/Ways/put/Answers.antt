use Rattle.std.proofs.Common.{List, ap, ◌∙◌, ◌++◌, ◌∷◌, []}
use Rattle.fws_pf_words.specs.declared.ways.Way.{Way}
use Rattle.fws_pf_words.proofs.Leading.{way_first, way_put}
use Rattle.fws_pf_words.proofs.ways.Ways.put.Goals as goal

pub returns-in_ok-put-in-Some : goal.returns-in_ok-put-in-Some
returns-in_ok-put-in-Some c = λ setting words_of items are is.
    way_put setting words_of items c.args.self.now.ways.entries _ c.args.name.now c.in-Some.known.now c.put.new.self c.args.way c.in-Some.ensures.value
    c.in_ok-put-in-Some.ensures.ok (c.get_mut.follows.holds _).0 are is

pub returns-in_ok-insert-in-None : goal.returns-in_ok-insert-in-None
returns-in_ok-insert-in-None c = λ setting words_of items are is.
    way_first setting words_of items c.args.self.now.ways.entries _ c.insert.new.self.entries c.args.name.now _ c.put-in-None.new.self c.args.way
    (ap (λ m. m.entries) c.get_mut.follows.holds-at-none) c.in_ok-copy-in-None.ensures
    (c.in_ok-put-in-None.ensures.ok ∙ ap (λ (l : List Way). l ++ c.args.way ∷ []) c.new-known.ensures)
    (λ other. c.in_ok-insert-in-None.ensures.updates.0 other) are is
