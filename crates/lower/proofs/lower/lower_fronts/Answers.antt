use Rattle.lower.proofs.AnswerLaws.{put_back}
use Rattle.lower_parts.specs.Answer.{output_of}
use Rattle.lower.proofs.lower.lower_fronts.Goals as goal

pub returns-clause-answer : goal.returns-clause-answer
returns-clause-answer c = put_back _ _ (output_of c.args.out.now) c.requires.1 _ c.lower_words.ensures.answer
