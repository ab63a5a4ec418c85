-- The text of a printable configuration is read as that configuration.
use Rattle.std.proofs.Common.{◌≡◌, suc, true, false, ◌&&◌, not, None, Ok, List, [], ◌∷◌, ◌++◌, length, refl, ap, sym, ◌∙◌, append_assoc, append-nil}
use Rattle.std.proofs.lemmas.Bool.{and_from, and_parts, cond_both, not_from_false}
use Rattle.std.proofs.lemmas.List.Folds.{list_all-append}
use Rattle.std.specs.List.{list_all, list_any}
use Rattle.fws_num.specs.declared.comments.Comments.TheVariants.{HashLine}
use Rattle.fws_num.specs.Lines.{lines_of, numbered}
use Rattle.fws_num.specs.Written.{is_one_line}
use Rattle.fws_net.specs.declared.site.Site.{Site}
use Rattle.fws_net.specs.Reading.{and_then, lines_read, located}
use Rattle.fws_net.specs.SiteLaws.{IsOrderly}
use Rattle.fws_ipt.specs.declared.config.IptTable.{IptTable}
use Rattle.fws_ipt.specs.declared.config.IptTable.TheVariants.{Filter, Nat, Mangle}
use Rattle.fws_ipt.specs.declared.config.IptChain.{IptChain}
use Rattle.fws_ipt.specs.declared.config.IptConfig.{IptConfig}
use Rattle.fws_ipt.specs.declared.draft.Section.{Section}
use Rattle.fws_ipt.specs.declared.draft.Section.TheVariants.{Met}
use Rattle.fws_ipt.specs.FileText.{ended as text_ended, fresh_text, is_section, line_step}
use Rattle.fws_ipt.specs.Soundness.{are_apart, is_named}
use Rattle.fws_ipt.specs.Walk.{is_table}
use Rattle.fws_ipt_print.specs.Printable.{are_in_order, is_printed_chain}
use Rattle.fws_ipt_print.specs.PrintedText.{config_lines, config_text, head_lines, table_lines}
use Rattle.fws_ipt_print.specs.ReadBack.{PrintedTextsAreRead}
use Rattle.fws_ipt_print.proofs.Chains.{all_in, others, table_same, tables_divided}
use Rattle.fws_ipt_print.proofs.Laws.{Laws}
use Rattle.fws_ipt_print.proofs.TakenLines.{AreTaken, bytes_of, ended-append, lines_back, lines_single, taken_append}
use Rattle.fws_ipt_print.proofs.Tables.{at, opened_by, table_taken}

others_than : (table other : IptTable) (chains : List IptChain) → is_table table other ≡ false → all_in other chains ≡ true → others table chains ≡ true
others_than table other [] h k = refl
others_than table other (chain ∷ chains) h k =
    let parts = and_parts (is_table other chain.table) (all_in other chains) k in
    and_from (not (is_table table chain.table)) (others table chains)
    (not_from_false (is_table table chain.table) (ap (is_table table) (sym (table_same other chain.table parts.0)) ∙ h)) (others_than table other chains h parts.1)

others_both : (table : IptTable) (xs ys : List IptChain) → others table xs ≡ true → others table ys ≡ true → others table (xs ++ ys) ≡ true
others_both table xs ys h k = list_all-append (λ chain. not (is_table table chain.table)) xs ys ∙ and_from (others table xs) (others table ys) h k

module _ (laws : Laws) (site : Site) (orderly : IsOrderly site) (c : IptConfig) (ordered : are_in_order 0 c.chains ≡ true) (named : list_all is_named c.chains ≡ true)
    (apart : are_apart c.chains ≡ true) (printed : list_all (is_printed_chain site c.chains) c.chains ≡ true) where
  abbrev all : List IptChain
  all = c.chains

  abbrev by : IptTable → List Section → List Section
  by table opened = opened_by laws site orderly all apart named printed table opened

  nat_new : list_any (is_section (Met Nat)) (by Mangle []) ≡ false
  nat_new =
      cond_both (list_any (λ chain. is_table Mangle chain.table) all) (Met Mangle ∷ []) [] (λ opened. list_any (is_section (Met Nat)) opened ≡ false) (λ e. refl) (λ e. refl)

  filter_new : list_any (is_section (Met Filter)) (by Nat (by Mangle [])) ≡ false
  filter_new =
      cond_both (list_any (λ chain. is_table Mangle chain.table) all) (Met Mangle ∷ []) [] (λ opened. list_any (is_section (Met Filter)) (by Nat opened) ≡ false)
      (λ e. cond_both (list_any (λ chain. is_table Nat chain.table) all) (Met Mangle ∷ Met Nat ∷ []) (Met Mangle ∷ []) (λ opened. list_any (is_section (Met Filter)) opened ≡ false) (λ e. refl) (λ e. refl))
      (λ e. cond_both (list_any (λ chain. is_table Nat chain.table) all) (Met Nat ∷ []) [] (λ opened. list_any (is_section (Met Filter)) opened ≡ false) (λ e. refl) (λ e. refl))

  all_read : lines_read (line_step site) fresh_text (numbered HashLine 1 (head_lines ++ bytes_of (config_lines site c))) ≡ Ok (at (by Filter (by Nat (by Mangle []))) None all)
      × (list_all is_one_line (head_lines ++ bytes_of (config_lines site c)) ≡ true)
  all_read =
      let p = tables_divided all ordered in
      let first = by Mangle [] in
      let second = by Nat first in
      let third = by Filter second in
      let mangle = table_taken laws site orderly all apart named printed Mangle [] [] p.mangles (p.nats ++ p.filters) (p.divides ∙ append_assoc p.mangles p.nats p.filters) p.of_mangle refl
      (others_both Mangle p.nats p.filters (others_than Mangle Nat p.nats refl p.of_nat) (others_than Mangle Filter p.filters refl p.of_filter)) refl in
      let nat = table_taken laws site orderly all apart named printed Nat first p.mangles p.nats p.filters p.divides p.of_nat (others_than Nat Mangle p.mangles refl p.of_mangle)
      (others_than Nat Filter p.filters refl p.of_filter) nat_new in
      let filter = table_taken laws site orderly all apart named printed Filter second (p.mangles ++ p.nats) p.filters [] (p.divides ∙ sym (append-nil (p.mangles ++ p.nats ++ p.filters))) p.of_filter
      (others_both Filter p.mangles p.nats (others_than Filter Mangle p.mangles refl p.of_mangle) (others_than Filter Nat p.nats refl p.of_nat)) refl filter_new in
      let end = at third None (p.mangles ++ p.nats ++ p.filters) in
      let taken : AreTaken site fresh_text (config_lines site c) end =
      taken_append site fresh_text (at second None (p.mangles ++ p.nats)) end (table_lines site all Mangle ++ table_lines site all Nat) (table_lines site all Filter)
      (taken_append site fresh_text (at first None p.mangles) (at second None (p.mangles ++ p.nats)) (table_lines site all Mangle) (table_lines site all Nat) mangle nat)
      filter in (
        lines_back laws site fresh_text end (config_lines site c) taken 4 ∙ ap (λ (chains : List IptChain). Ok (at third None chains)) (sym p.divides),
        list_all-append is_one_line head_lines (bytes_of (config_lines site c))
            ∙ and_from (list_all is_one_line head_lines) (list_all is_one_line (bytes_of (config_lines site c))) refl (lines_single site fresh_text end (config_lines site c) taken),
      )

pub printed_read : Laws → PrintedTextsAreRead
printed_read laws site c orderly h =
    let last = and_parts (are_in_order 0 c.chains && list_all is_named c.chains && are_apart c.chains) (list_all (is_printed_chain site c.chains) c.chains) h in
    let third = and_parts (are_in_order 0 c.chains && list_all is_named c.chains) (are_apart c.chains) last.0 in
    let first = and_parts (are_in_order 0 c.chains) (list_all is_named c.chains) third.0 in
    let read = all_read laws site orderly c first.0 first.1 third.1 last.1 in
    let lines = head_lines ++ bytes_of (config_lines site c) in
    let divided : lines_of (config_text site c) ≡ lines = ap lines_of (sym (ended-append head_lines (bytes_of (config_lines site c)))) ∙ laws.lines lines read.1 in
    ap (λ ls. and_then (lines_read (line_step site) fresh_text (numbered HashLine 1 ls)) (λ state. located (suc (length ls)) (text_ended state))) divided
    ∙ ap (λ o. and_then o (λ state. located (suc (length lines)) (text_ended state))) read.0
