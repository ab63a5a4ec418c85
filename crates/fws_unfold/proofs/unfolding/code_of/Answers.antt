use Rattle.std.proofs.Common.{◌≡◌, List, length, sym, subst, ap, ◌∙◌}
use Rattle.fws_ifcl.specs.declared.diagram.Stage.{Stage}
use Rattle.fws_flat.specs.declared.code.Flat.{Flat}
use Rattle.fws_flat.specs.Soundness.{flat_ok}
use Rattle.fws_flat.specs.Walk.{means}
use Rattle.fws_unfold.specs.declared.placing.Span.{Span}
use Rattle.fws_unfold.specs.Blocks.{AreBlocks, parts_of}
use Rattle.fws_flat.specs.Uses.{used_places}
use Rattle.fws_unfold.specs.Told.{told, AreToldBlocks}
use Rattle.fws_unfold.proofs.FlattenedUsed.{flat_told}
use Rattle.fws_unfold.proofs.Flattened.{chains_right, flat_right, flat_same, same_flat}
use Rattle.fws_unfold.proofs.unfolding.code_of.Goals as goal

pub put_blocks-requires-clause-named : goal.put_blocks-requires-clause-named
put_blocks-requires-clause-named c = c.ok_diagrams_name_chains.ensures c.args.f.now c.requires.ok

pub put_blocks-requires-clause-acyclic : goal.put_blocks-requires-clause-acyclic
put_blocks-requires-clause-acyclic c = c.unrefused_have_no_loop.ensures c.args.f.now c.requires.unrefused

pub put_blocks-requires-clause-sound : goal.put_blocks-requires-clause-sound
put_blocks-requires-clause-sound c = chains_right c.args.f.now c.requires.ok

pub returns-clause-ok : goal.returns-clause-ok
returns-clause-ok c =
    let f = c.args.f.now in
    let spans = c.as_slice-spans.result.now in
    let code = c.put_blocks.new.code.items in
    let blocks : AreBlocks f code spans = subst (λ (ss : List Span). AreBlocks f code ss) (sym c.as_slice-spans.ensures.value) c.in_ok-made.ensures.blocks in
    let all : length spans ≡ length f.chains = ap length c.as_slice-spans.ensures.value ∙ c.in_ok-made.ensures.all in
    let arrive = c.in_ok-parts_of.ensures ∙ ap (λ (xs : List Stage). parts_of spans xs) c.as_slice.ensures in
    let deliver = c.in_ok-parts_of-2.ensures ∙ ap (λ (xs : List Stage). parts_of spans xs) c.as_slice-2.ensures in
    let forward = c.in_ok-parts_of-3.ensures ∙ ap (λ (xs : List Stage). parts_of spans xs) c.as_slice-3.ensures in
    let send = c.in_ok-parts_of-4.ensures ∙ ap (λ (xs : List Stage). parts_of spans xs) c.as_slice-4.ensures in
    let same = same_flat _ _ _ _ _ _ _ _ _ _ c.from_vec.ensures arrive deliver forward send in
    ap flat_ok same ∙ flat_right f code spans c.requires.ok blocks all

pub returns-clause-means : goal.returns-clause-means
returns-clause-means c = λ site p k.
    let f = c.args.f.now in
    let spans = c.as_slice-spans.result.now in
    let code = c.put_blocks.new.code.items in
    let blocks : AreBlocks f code spans = subst (λ (ss : List Span). AreBlocks f code ss) (sym c.as_slice-spans.ensures.value) c.in_ok-made.ensures.blocks in
    let all : length spans ≡ length f.chains = ap length c.as_slice-spans.ensures.value ∙ c.in_ok-made.ensures.all in
    let arrive = c.in_ok-parts_of.ensures ∙ ap (λ (xs : List Stage). parts_of spans xs) c.as_slice.ensures in
    let deliver = c.in_ok-parts_of-2.ensures ∙ ap (λ (xs : List Stage). parts_of spans xs) c.as_slice-2.ensures in
    let forward = c.in_ok-parts_of-3.ensures ∙ ap (λ (xs : List Stage). parts_of spans xs) c.as_slice-3.ensures in
    let send = c.in_ok-parts_of-4.ensures ∙ ap (λ (xs : List Stage). parts_of spans xs) c.as_slice-4.ensures in
    let same = same_flat _ _ _ _ _ _ _ _ _ _ c.from_vec.ensures arrive deliver forward send in
    ap (λ (flat : Flat). means flat site p k) same ∙ flat_same f code spans c.requires.ok blocks all site p k

pub returns-clause-uses : goal.returns-clause-uses
returns-clause-uses c = λ site p k.
    let f = c.args.f.now in
    let spans = c.as_slice-spans.result.now in
    let code = c.put_blocks.new.code.items in
    let blocks : AreBlocks f code spans = subst (λ (ss : List Span). AreBlocks f code ss) (sym c.as_slice-spans.ensures.value) c.in_ok-made.ensures.blocks in
    let all : length spans ≡ length f.chains = ap length c.as_slice-spans.ensures.value ∙ c.in_ok-made.ensures.all in
    let arrive = c.in_ok-parts_of.ensures ∙ ap (λ (xs : List Stage). parts_of spans xs) c.as_slice.ensures in
    let deliver = c.in_ok-parts_of-2.ensures ∙ ap (λ (xs : List Stage). parts_of spans xs) c.as_slice-2.ensures in
    let forward = c.in_ok-parts_of-3.ensures ∙ ap (λ (xs : List Stage). parts_of spans xs) c.as_slice-3.ensures in
    let send = c.in_ok-parts_of-4.ensures ∙ ap (λ (xs : List Stage). parts_of spans xs) c.as_slice-4.ensures in
    let same = same_flat _ _ _ _ _ _ _ _ _ _ c.from_vec.ensures arrive deliver forward send in
    let tells : AreToldBlocks f code c.put_blocks.new.rules.items spans = subst (λ (ss : List Span). AreToldBlocks f code c.put_blocks.new.rules.items ss) (sym c.as_slice-spans.ensures.value) c.in_ok-made.ensures.tells in
    ap (λ (flat : Flat). told c.put_blocks.new.rules.items (used_places flat site p k)) same ∙ flat_told f code c.put_blocks.new.rules.items spans c.requires.ok blocks all tells site p k
