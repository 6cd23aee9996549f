use Rattle.std.proofs.Common.{subst}
use Rattle.std.specs.Prelude.{Ok}
use Rattle.c_lexer.specs.Answers.{LexGives, OnFault}
use Rattle.c_tokens.specs.Lexes.{LexFaultAt}
use Rattle.lay_compile.specs.Reaching.{HaveReached}
use Rattle.lay_compile.proofs.Next.{no_tokens, still_no_tree}
use Rattle.lay_compile.proofs.stages.with_file.Goals as goal

pub returns-in-Err : goal.returns-in-Err
returns-in-Err c before e h later =
    no_tokens c.args.number c.args.file.now c.in-Err.fault
    (subst (λ bytes. OnFault c.in-Err.fault (LexFaultAt bytes)) c.as_slice.ensures c.in-Err.ensures) before e c.args.reached h later

pub returns-in-Tokens : goal.returns-in-Tokens
returns-in-Tokens c before e h =
    still_no_tree c.args.number c.args.file.now c.in-Ok.tokens
    (subst (λ bytes. LexGives bytes c.args.number (Ok c.in-Ok.tokens)) c.as_slice.ensures c.in-Ok.ensures) c.in-Tokens.fault before e
    (subst (HaveReached before) c.in-Tokens.is h)
