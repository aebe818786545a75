mod AnswerLemmas
mod ArgumentLemmas
mod FailingWordLemmas
mod NumberLemmas
mod PointLemmas
mod SaidLemmas
mod WordLemmas
