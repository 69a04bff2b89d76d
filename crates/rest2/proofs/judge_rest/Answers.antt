-- `judge_rest` asks for a lost page, then for the bits of the pages set aside, then for the count, as the definitions do.
use Rattle.fields.proofs.Plain.{rules}
use Rattle.faults.proofs.Answers.{told_on}
use Rattle.rest2.proofs.Rest.{searched, few_aside, bits_lie, count_lies, few_pages, words_lie, rest_faulty, rest_unmarked, rest_miscounted, rest_clean}
use Rattle.rest2.proofs.judge_rest.Goals as goal

pub lost_page-requires : goal.lost_page-requires
lost_page-requires c = search searched

pub returns-in_err-lost_page : goal.returns-in_err-lost_page
returns-in_err-lost_page c = told_on _ _ _ c.from_residual.ensures.1 (rest_faulty c.requires c.in_err-lost_page.ensures)

pub are_marked-requires : goal.are_marked-requires
are_marked-requires c = search (rules, few_aside, bits_lie)

pub returns-then-not-are_marked : goal.returns-then-not-are_marked
returns-then-not-are_marked c = search (rest_unmarked, c.in_ok-lost_page.ensures)

pub load-free-requires : goal.load-free-requires
load-free-requires c = search count_lies

pub zero_bits-zeros-requires : goal.zero_bits-zeros-requires
zero_bits-zeros-requires c = search (rules, few_pages, words_lie)

pub returns-then-free-zeros : goal.returns-then-free-zeros
returns-then-free-zeros c = search (rest_miscounted, c.in_ok-lost_page.ensures)

pub returns : goal.returns
returns c = search (rest_clean, c.in_ok-lost_page.ensures)
