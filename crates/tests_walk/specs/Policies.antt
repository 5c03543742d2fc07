-- The policies that the tests use, beside those that the search comes with.
use Rattle.std.specs.Prelude.{cond, [], nat_lt}
use Rattle.search.specs.declared.policy.Reply.TheVariants.{Take, Close}
use Rattle.search.specs.Policy.{PolicyMeaning}

-- takes one after another
abbrev pub to_the_end : PolicyMeaning
to_the_end = record { cleared = []; reply = λ _ _. Take; next = λ kept _. kept }

-- takes one after another, and closes at one that saves 20 or more
abbrev pub until_twenty : PolicyMeaning
until_twenty = record { cleared = []; reply = λ _ s. cond (nat_lt s.saved 20) Take Close; next = λ kept _. kept }
