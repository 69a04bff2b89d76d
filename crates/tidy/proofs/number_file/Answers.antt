-- `number_file` goes by the owner's entry: only a file that starts on the page has something to number.
use Rattle.volume.proofs.Occ.{Under}
use Rattle.volume.proofs.Chains.{chain_length}
use Rattle.model.specs.Layout.{link}
use Rattle.proposals.proofs.Owned.{kind}
use Rattle.proposals.proofs.Numbers.{file_none, file_elsewhere, file_here, file_done, file_under}
use mathlib.Core.Path.{refl, sym, ap, subst}
use native.Mathlib.Omega.{arith}
use mathlib.Core.List.{[]}
use lib.ListN.{length}
use Rattle.tidy.proofs.number_file.Goals as goal

pub returns-then-start-page : goal.returns-then-start-page
returns-then-start-page c =
    let start = c in
    let owner_entry_lem = start in
    let whole = file_elsewhere _ _ _ _ (kind _ _ _ owner_entry_lem.owner_entry.ensures.0 start.in-File.is) c.if-start-page.true in
    record { value = whole.0; row_after = whole.1 }

pub number_chain-requires : goal.number_chain-requires
number_chain-requires c =
    let if1 = c in
    let start = if1 in
    let owner_entry_lem = start in
    let start' = owner_entry_lem in
    let e = file_here start'.args.image.now start'.args.page.0 0 [] (kind _ _ _ owner_entry_lem.owner_entry.ensures.0
    start.in-File.is) if1.if-start-page.false _ c.pages_for.ensures in (
      start'.requires.3,
      subst (Under (length start'.args.row.now)) (sym e) (file_under _ _ _ start'.requires.0.is_sound start'.requires.1 start'.requires.2 start'.requires.3),
      omega
          (arith, start'.requires.4, ap length e, chain_length (link start'.args.image.now) c.pages_for.result start.in-File.start.0),
    )

pub returns-in-Vacant : goal.returns-in-Vacant
returns-in-Vacant c =
    let whole = file_none _ _ _ _ (kind _ _ _ c.owner_entry.ensures.0 c.in-Vacant.is) refl in
    record { value = whole.0; row_after = whole.1 }

pub returns-else-start-page : goal.returns-else-start-page
returns-else-start-page c =
    let number-chain = c in
    let pages-for = number-chain in
    let if1 = pages-for in
    let start = if1 in
    let owner_entry_lem = start in
    let whole = file_done _ _ _ _ (kind _ _ _ owner_entry_lem.owner_entry.ensures.0 start.in-File.is)
    if1.if-start-page.false _ _ _ pages-for.pages_for.ensures number-chain.number_chain.ensures.value number-chain.number_chain.ensures.row_after in
    record { value = whole.0; row_after = whole.1 }

pub returns-in-Directory : goal.returns-in-Directory
returns-in-Directory c =
    let whole = file_none _ _ _ _ (kind _ _ _ c.owner_entry.ensures.0 c.in-Directory.is) refl in
    record { value = whole.0; row_after = whole.1 }
