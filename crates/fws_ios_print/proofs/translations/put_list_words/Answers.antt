use Rattle.std.proofs.Common.{[], ◌∷◌, codes}
use Rattle.fws_ios_print.specs.PrintedText.{pool_name}
use Rattle.fws_ios_print.proofs.LinesPut.{word_put, words_put}
use Rattle.fws_ios_print.proofs.translations.put_list_words.Goals as goal

pub returns : goal.returns
returns c =
    let out = c.args.out.now in
    let name = c.args.name.now in
    words_put out c.put_pool_name.new.out _ (codes "nat" ∷ codes "inside" ∷ codes "source" ∷ codes "list" ∷ name ∷ codes "pool" ∷ pool_name c.args.n ∷ []) (codes "overload" ∷ [])
    (word_put out c.put-2.new.self c.put_pool_name.new.out (codes "nat" ∷ codes "inside" ∷ codes "source" ∷ codes "list" ∷ name ∷ codes "pool" ∷ []) (pool_name c.args.n)
    (words_put out c.put_word.new.out c.put-2.new.self (codes "nat" ∷ codes "inside" ∷ codes "source" ∷ codes "list" ∷ name ∷ []) (codes "pool" ∷ [])
    (word_put out c.put.new.self c.put_word.new.out (codes "nat" ∷ codes "inside" ∷ codes "source" ∷ codes "list" ∷ []) name c.in_ok-put.ensures.ok c.in_ok-put_word.ensures)
    c.in_ok-put-2.ensures.ok)
    c.in_ok-put_pool_name.ensures)
    c.in_ok-put-3.ensures.ok
