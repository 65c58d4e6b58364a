use Rattle.kx_page.proofs.SameMarkup.{diagrams_alike, pages_alike}
use Rattle.kx_page.proofs.laws.values_add_no_markup.Goals as goal

pub returns-clause-page : goal.returns-clause-page
returns-clause-page c = pages_alike

pub returns-clause-diagram : goal.returns-clause-diagram
returns-clause-diagram c = diagrams_alike
